-- The modules of a page, in the order of its lines.
pub mod Rows
pub mod inner
