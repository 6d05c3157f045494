-- Rule (iv).
pub mod inner
