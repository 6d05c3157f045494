-- What is left of the circles in two lent slices.
pub mod Gathering
pub mod inner
