-- The share of a project.
pub mod Promise
