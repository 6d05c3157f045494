-- The laws behind the reader.
pub mod Stripes
pub mod Cuts
pub mod RowCells
pub mod Tables
pub mod Projects
pub mod Parts
pub mod Numbers
pub mod Answered
