-- `Promise`: what the operation promises of a call that is refused, and of one that counts.
pub mod Promise
