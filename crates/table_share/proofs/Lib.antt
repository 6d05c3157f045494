-- No more modules are planned than are eligible.
pub mod Counts
