-- The two counts of a share.
pub mod Counts
