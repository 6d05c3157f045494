pub mod Graphing
pub mod Writing
