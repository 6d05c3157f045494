-- `Starting`: where a run starts. `Planned`: that a complete chain of takings is the plan.
pub mod Starting
pub mod Planned
