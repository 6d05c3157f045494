-- Cyclic chunks of a project, their labels, chunk reach, and what the operations promise.
pub mod Cycles
pub mod Paths
pub mod Promise
pub mod inner
