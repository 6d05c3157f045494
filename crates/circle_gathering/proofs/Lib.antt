-- `Writing`: what is left of the circles in the slices. `Leading`: the rows lead to the sort's targets once. `Roots`: the roots in turn.
pub mod Writing
pub mod Leading
pub mod Roots
