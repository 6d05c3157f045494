-- The plan from seeds by a worklist.
pub mod inner
