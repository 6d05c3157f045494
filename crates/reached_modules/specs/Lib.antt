-- The analysed entries' roots, and what they reach.
pub mod inner
