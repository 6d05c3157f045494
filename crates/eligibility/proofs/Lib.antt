-- `Eligible`: eligible modules have a row. `Facts`: facts as numbers, and their product. `Fits`: the columns of an accepted project fit each other.
pub mod Eligible
pub mod Facts
pub mod Fits
