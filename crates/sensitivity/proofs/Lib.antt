-- `Marks`: sensitive modules have a row. `Searches`: a module's statements, and their uses. `Unfound`: the search over them, by what is left.
-- `Fits`: the columns of an accepted project fit each other.
pub mod Fits
pub mod Marks
pub mod Searches
pub mod Unfound
