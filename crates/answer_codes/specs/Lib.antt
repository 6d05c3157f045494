-- What the exported functions promise, and how their answers are told apart.
pub mod Calls
pub mod Exported
pub mod ToldApart
pub mod CheckToldApart
