-- The key of a module: its group, and behind it its number or its name.
pub mod Keys
pub mod inner
