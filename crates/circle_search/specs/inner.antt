-- What only the code's contracts and the proofs speak of.
pub mod Search
