-- The laws behind reading rows.
pub mod Positions
pub mod Cell
pub mod Turn
pub mod Line
pub mod Listed
pub mod Names
