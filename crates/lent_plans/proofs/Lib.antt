-- The statements, proved.
pub mod Checked
pub mod Late
pub mod LateWitnesses
