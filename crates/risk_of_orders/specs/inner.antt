-- What inner contracts and proofs speak of.
pub mod Early
pub mod Blame
pub mod Steps
