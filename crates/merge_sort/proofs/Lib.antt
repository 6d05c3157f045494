-- The order by keys, the sort, and the keys as slices hold them.
pub mod Ahead
pub mod Sorting
pub mod Holding
