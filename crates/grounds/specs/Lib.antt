-- What the operation `grounds` promises.
pub mod Promise
