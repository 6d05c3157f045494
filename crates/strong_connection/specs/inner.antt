-- What inner contracts and proofs speak of.
pub mod Graph
pub mod Marking
