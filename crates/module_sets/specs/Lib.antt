-- The two sets of modules that risks and rules read, of a project.
pub mod inner
