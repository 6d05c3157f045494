-- Rule (iii).
pub mod inner
