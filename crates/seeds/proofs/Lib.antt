-- What the test of lent seeds computes.
pub mod Fits
