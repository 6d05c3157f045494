-- `Leads`: what leads to a plan. `Marking`: rule (iii) by marks. `OfProject`: at a project.
pub mod Leads
pub mod Marking
pub mod OfProject
