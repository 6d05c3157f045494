-- `Rows`: the rows as columns. `Beside`: a table read with them.
pub mod Rows
pub mod Beside
