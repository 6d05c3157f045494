-- Threaded rows.
pub mod inner
