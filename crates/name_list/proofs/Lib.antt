-- The laws behind finding the names.
pub mod Sections
