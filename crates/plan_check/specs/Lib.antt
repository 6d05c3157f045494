-- What is said of a plan that was made elsewhere.
pub mod Promise
