-- `Promise`: the page of an entry by a plan and grounds that were made before. `Output`: what the page program prints.
pub mod Promise
pub mod Output
