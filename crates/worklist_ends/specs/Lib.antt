-- The ends of a worklist.
pub mod inner
