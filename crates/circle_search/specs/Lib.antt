-- The search of the import circles, over any successor function.
pub mod Circles
pub mod inner
