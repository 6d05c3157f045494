-- Modules that later ones supersede, and how columns are read through them.
pub mod Replacement
pub mod inner
