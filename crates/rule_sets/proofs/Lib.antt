-- `Edges`: the import records as edges, in the front parts of two arrays. `Blank`: marks that are all 0. `Sizes`: how long the sets are.
pub mod Edges
pub mod Blank
pub mod Sizes
