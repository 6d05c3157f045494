-- The worklist from seeds, shown.
pub mod Promise
