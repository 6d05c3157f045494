-- What is promised of the plans, of the risks, and of what is read.
pub mod Changes
pub mod Statements
pub mod Risks
pub mod Grounds
pub mod Together
pub mod AsRead
pub mod Arranged
