-- A table's settings and columns.
pub mod AsProject
-- A table that passed the tests.
pub mod Tested
