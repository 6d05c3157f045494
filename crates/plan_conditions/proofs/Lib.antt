-- `Lowest`: the lowest number that passes a test. `Judging`: when a plan is accepted, and what a broken condition names. `Fitting`: when a plan fits.
pub mod Lowest
pub mod Judging
pub mod Fitting
