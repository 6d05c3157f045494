-- Requests as a graph.
pub mod inner
