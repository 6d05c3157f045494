-- `Leading`: what the rows of a place name. `Filling`: what one more listed module does to the slices.
pub mod Leading
pub mod Filling
