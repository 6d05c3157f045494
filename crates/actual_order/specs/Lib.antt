-- What the operation promises.
pub mod Promise
