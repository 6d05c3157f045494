-- The steps of a visit.
pub mod Hosts
pub mod inner
