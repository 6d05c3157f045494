-- The laws of the text form: fields read back, rows and columns, and that a text has one table at most; and of stores, for its reader and writer.
pub mod Fields
pub mod Transposing
pub mod Runs
pub mod Rows
pub mod Injective
pub mod Witness
