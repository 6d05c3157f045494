-- `Growing`: lists that grow. `Reaching`: following rows.
pub mod Growing
pub mod Reaching
