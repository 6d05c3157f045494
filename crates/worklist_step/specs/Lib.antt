-- One taking.
pub mod inner
