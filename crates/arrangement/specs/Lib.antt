-- The members of each chunk as `sort_chunk_modules` arranges them.
pub mod Arrangement
pub mod OfProject
pub mod inner
