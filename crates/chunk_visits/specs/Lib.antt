-- Chunk visits.
pub mod inner
