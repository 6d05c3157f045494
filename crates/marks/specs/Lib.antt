-- What the steps over one table do.
pub mod Steps
