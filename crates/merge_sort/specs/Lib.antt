-- Modules sorted by keys that are lists of numbers.
pub mod Sort
pub mod inner
