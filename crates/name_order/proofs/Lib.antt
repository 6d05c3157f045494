-- Lines by where they start, and the order of names.
pub mod LinesAt
pub mod Runs
