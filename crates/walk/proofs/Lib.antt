-- `Visits`: the cases of a visit, fuel, marks, and any payload as a fold over the post-order. `Orders`: what a post-order lists, and paths.
-- `Closes`: the least closed set. `Joins`: orders of joining. `Going`: visits as a code's loop makes them. `Placing`: a post-order written to a slice.
-- `Pruned`: a walk that goes on from what earlier roots met.
pub mod Visits
pub mod Orders
pub mod Closes
pub mod Joins
pub mod Going
pub mod Placing
pub mod Pruned
