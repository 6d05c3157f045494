-- What the steps of a visit ask and ensure.
pub mod Steps
