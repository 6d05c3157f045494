-- Each case of the answer.
pub mod Promise
