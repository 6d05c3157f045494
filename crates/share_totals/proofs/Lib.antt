-- `Quotients`: that a share's quotient is small. `Sums`: the statements on totals.
pub mod Quotients
pub mod Sums
