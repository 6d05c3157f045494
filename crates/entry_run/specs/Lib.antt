-- The actual order of an entry, and its hosts.
pub mod Actual
pub mod inner
