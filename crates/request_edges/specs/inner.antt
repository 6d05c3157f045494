-- What only inner contracts and proofs speak of.
pub mod Edges
pub mod Lent
