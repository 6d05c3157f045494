-- The risk of an entry of a project, and what the operation promises.
pub mod Promise
pub mod inner
