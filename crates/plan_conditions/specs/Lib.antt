-- A plan's form, and the six conditions.
pub mod Form
pub mod Conditions
