-- The theory of the steps over one table. `Parts`: a part of a local array that is lent. `Turns`: one turn of adding what is in three sets.
pub mod Steps
pub mod Parts
pub mod Turns
