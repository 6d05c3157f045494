-- The columns that the visits read.
pub mod inner
