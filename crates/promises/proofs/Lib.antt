-- The promises, proved.
pub mod Same
pub mod Theorems
pub mod Arranged
pub mod Risks
pub mod Grounds
pub mod Together
pub mod AsRead
