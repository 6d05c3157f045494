-- The lists of a text, row by row.
pub mod inner
