-- The laws of the words on lists: `Laws`; `Tests`, `Members`, `Distinct` and `Maps` by what they are of.
-- `Fronts`: the front of an array. `Passes`: a pass that writes a mark a place. `Zips`: a loop over two columns side by side.
pub mod Laws
pub mod Tests
pub mod Members
pub mod Distinct
pub mod Maps
pub mod Fronts
pub mod Passes
pub mod Zips
