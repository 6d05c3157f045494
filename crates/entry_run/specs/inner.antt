-- What only inner contracts and proofs speak of.
pub mod InTurn
pub mod Cores
pub mod OverTable
