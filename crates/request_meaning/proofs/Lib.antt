-- `Columns`: the columns that the edges are made of. `Leading`: what leads to a planned module, by paths. `Meaning`: what a path means.
-- `Paths`: what a rule asks for has a path.
pub mod Columns
pub mod Leading
pub mod Meaning
pub mod Paths
