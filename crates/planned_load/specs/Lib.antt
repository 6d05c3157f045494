-- The steps of a load with a plan carried out.
pub mod Steps
pub mod inner
