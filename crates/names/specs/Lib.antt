-- The names of a project's modules.
pub mod Names
pub mod inner
