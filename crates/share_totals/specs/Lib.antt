-- `Shares`: a project's share. `Sums`: the totals. `Within`: what the outcomes of projects come to at most, and the statements on totals.
pub mod Shares
pub mod Sums
pub mod Within
