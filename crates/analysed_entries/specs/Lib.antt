-- Which entries are analysed, as functions find them.
pub mod inner
