-- What a record row leads to in the sort.
pub mod Rows
