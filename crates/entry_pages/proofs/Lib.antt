-- `Orders`: the members of an order that pass a test are an order; what was listed, as an array holds it.
pub mod Orders
