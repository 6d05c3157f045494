-- `Touches`: what touches a plan. `Marking`: rule (iv) by marks. `Chains`: the marks of the chains' symbols, over columns. `OfProject`: at a project.
pub mod Touches
pub mod Marking
pub mod Chains
pub mod OfProject
