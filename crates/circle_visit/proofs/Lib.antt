-- `Paths`: writing a path. `Turns`: what meeting a module rests on.
pub mod Paths
pub mod Turns
