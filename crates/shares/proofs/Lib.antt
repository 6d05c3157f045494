-- What writing a share promises, and that an outcome fits the totals.
pub mod Promise
