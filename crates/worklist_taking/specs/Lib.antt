-- A worklist between two takings, at a project.
pub mod inner
