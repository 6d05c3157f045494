-- Lent seeds.
pub mod Seeds
