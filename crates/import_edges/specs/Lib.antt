-- The import records as edges.
pub mod inner
