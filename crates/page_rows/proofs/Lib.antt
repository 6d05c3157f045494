-- `Keeping`: members listed one by one. `Places`: which members have a place. `Once`: each module once, and how many there are at most.
pub mod Keeping
pub mod Places
pub mod Once
