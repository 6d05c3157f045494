-- The columns of an accepted project fit.
pub mod Fits
-- What visits keep.
mod Carried
-- A visit, turn by turn.
mod Turns
