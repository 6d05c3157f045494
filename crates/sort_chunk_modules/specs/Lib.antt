-- What the operation `sort_chunk_modules` promises.
pub mod Promise
