-- The page of an entry of a project, by the marks of its sensitive and of its planned modules.
pub mod Marked
