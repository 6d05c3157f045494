-- Rule (i).
pub mod inner
