-- A project lent as a table, and what an operation on one answers.
pub mod Table
pub mod Lending
