-- The four rules, and the plan from seeds.
pub mod Rules
pub mod Plan
pub mod inner
