-- The expected order of an entry, over columns and at a project; what the visit asks, and the state of its walk.
pub mod Expected
pub mod OfProject
pub mod Visit
