-- `Marking`: rule (ii) by marks. `OfProject`: at a project.
pub mod Marking
pub mod OfProject
