-- What inner contracts and proofs speak of.
pub mod Sets
