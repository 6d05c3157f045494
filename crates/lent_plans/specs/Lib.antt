-- What is promised of plans that a caller lends: of one that is checked, and of one that later seeds join.
pub mod Checked
pub mod Late
pub mod LateWitnesses
