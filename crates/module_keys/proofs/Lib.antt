-- The keys.
pub mod Keys
