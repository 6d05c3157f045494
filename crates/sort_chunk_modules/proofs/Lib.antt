-- `Promise`: what the operation promises where its project is refused, and what is known of an accepted table.
pub mod Promise
