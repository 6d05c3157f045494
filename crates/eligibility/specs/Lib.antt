-- Eligible modules. `Ready` is what functions on columns ask.
pub mod Eligible
pub mod Ready
