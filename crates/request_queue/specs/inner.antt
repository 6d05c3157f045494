-- What only inner contracts and proofs speak of.
pub mod Growing
pub mod Lent
pub mod Once
