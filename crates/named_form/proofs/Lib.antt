-- Rendering with names is injective.
pub mod Injective
