-- Rule (i) for a list of modules.
pub mod inner
