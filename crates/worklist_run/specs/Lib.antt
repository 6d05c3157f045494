-- A run of a worklist.
pub mod inner
