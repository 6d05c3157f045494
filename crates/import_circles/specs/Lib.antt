-- Import circles: at a project, and what the operation promises.
pub mod OfProject
pub mod Promise
