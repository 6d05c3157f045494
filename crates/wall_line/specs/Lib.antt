-- An entry's page and one line of it, and what the operation of a line promises.
pub mod Promise
