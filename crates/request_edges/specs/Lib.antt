-- Edges of rows.
pub mod inner
