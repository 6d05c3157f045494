-- What meeting a module asks, and the state of its search.
pub mod Visit
