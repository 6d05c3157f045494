-- What inner contracts and proofs speak of: `Held`, the keys as slices hold them.
pub mod Held
