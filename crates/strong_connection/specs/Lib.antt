-- Cyclic chunks of a graph, their labels, and chunk reach.
pub mod Cycles
pub mod inner
