-- `Counts`: the walk stays among the modules, and how many circles there can be.
pub mod Counts
