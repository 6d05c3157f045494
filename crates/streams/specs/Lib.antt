-- What reading a project's text from an input gives.
pub mod Texts
