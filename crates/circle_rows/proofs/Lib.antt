-- `Rows`: the pass over the rows.
pub mod Rows
