-- Planning by a worklist.
pub mod inner
