-- What the rows lead to, once for each module.
pub mod Rows
