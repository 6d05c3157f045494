-- Rule (i) in batches.
pub mod inner
