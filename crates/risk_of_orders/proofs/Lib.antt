-- `Order`, `Risks`: what isn't flagged stands in both orders alike. `Early`: early modules by a running maximum. `Blame`, `Puts`: whom a flagged module
-- puts at risk. `Joins`: sets with more marked. `Running`, `Places`, `Flagging`: the loops. `OrderRisk`: the passes together.
pub mod Order
pub mod Risks
pub mod Early
pub mod Blame
pub mod Joins
pub mod Puts
pub mod Running
pub mod Places
pub mod OrderRisk
pub mod Flagging
