-- The outcome of a text that was read, and that it fits the totals.
pub mod Texts
