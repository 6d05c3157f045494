-- Module visits.
pub mod inner
