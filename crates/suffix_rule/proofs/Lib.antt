-- `Extending`: rule (i) by orders. `OfProject`: at a project.
pub mod Extending
pub mod OfProject
