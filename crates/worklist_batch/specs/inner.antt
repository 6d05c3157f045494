-- What only inner contracts and proofs speak of.
pub mod Noting
pub mod Lent
