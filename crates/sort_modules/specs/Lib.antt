-- Module numbers and sorted list: over columns, at a project, and what the functions of this crate ask and promise.
pub mod Sort
pub mod OfProject
pub mod Promise
pub mod Sorting
