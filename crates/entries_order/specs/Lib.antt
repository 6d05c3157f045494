-- The expected order of many entries walked together: over columns, at a project, and what the operation promises.
pub mod Entries
pub mod OfEntries
pub mod Promise
pub mod inner
