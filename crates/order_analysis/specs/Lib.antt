-- The whole analysis at a project.
pub mod Promise
pub mod inner
