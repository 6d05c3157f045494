-- What trying a plan promises.
pub mod Promise
