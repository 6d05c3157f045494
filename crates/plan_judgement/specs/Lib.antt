-- What judging a plan asks.
pub mod inner
