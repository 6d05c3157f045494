-- What the four rules read of a project.
pub mod inner
