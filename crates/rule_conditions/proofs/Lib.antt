-- `Copies`: a copy of a plan, and what a rule adds to it.
pub mod Copies
