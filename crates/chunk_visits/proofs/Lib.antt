-- `ChunkVisits`: a chunk's visit with the counters lent.
pub mod ChunkVisits
