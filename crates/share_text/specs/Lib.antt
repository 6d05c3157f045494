-- The outcome of a text.
pub mod Texts
