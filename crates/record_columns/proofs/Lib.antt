-- What holds of the columns.
pub mod Copied
