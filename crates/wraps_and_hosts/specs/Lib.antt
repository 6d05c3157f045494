-- The host of a module by the noted ones.
pub mod Hosts
