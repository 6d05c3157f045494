-- What the line writer and the list of members promise.
pub mod Lines
pub mod Writing
