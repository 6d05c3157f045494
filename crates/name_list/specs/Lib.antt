-- Where the names of a text lie.
pub mod Lying
