-- `Walking`: what holds between the rows of a module that is visited. `Laws`: the order, for crates above.
pub mod Walking
pub mod Laws
