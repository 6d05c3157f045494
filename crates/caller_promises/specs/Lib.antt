-- Demand 3 for callers from C and of the record forms.
pub mod Ways
pub mod DemandThree
pub mod Witnesses
