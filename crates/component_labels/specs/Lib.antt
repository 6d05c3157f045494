-- How chunks are labelled.
pub mod inner
