-- The promises, proved.
pub mod Worklists
