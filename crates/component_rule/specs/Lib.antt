-- Rule (ii).
pub mod inner
