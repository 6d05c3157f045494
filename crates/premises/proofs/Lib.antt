-- The statements, proved.
pub mod Witnesses
pub mod Needed
pub mod LoadNeeded
