-- The arrangement chunk by chunk, and its laws.
pub mod Parts
pub mod Chunks
pub mod Laws
pub mod OfProject
pub mod Witness
