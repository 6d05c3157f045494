-- A step by its number, and the hosts of the steps.
pub mod Stepping
