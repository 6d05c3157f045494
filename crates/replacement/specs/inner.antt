-- What the passes ask and ensure.
pub mod Passes
