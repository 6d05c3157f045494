-- `Adding`: edges of rows, and in turn. `Added`: the same row by row.
pub mod Adding
pub mod Added
