-- That the premises of the promises can be met, and that each is needed.
pub mod Witnesses
pub mod Needed
pub mod LoadNeeded
