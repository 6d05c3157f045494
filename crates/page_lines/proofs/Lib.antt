-- `Places`: the difference of two places as an i32. `Texts`: how long the parts of a line are. `Shifts`: how far a shift goes, and lines by hand.
pub mod Places
pub mod Texts
pub mod Columns
pub mod Shifts
