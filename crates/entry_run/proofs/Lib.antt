-- `Actuals`: what a run of hosts lists, and which hosts it notes; `OfProject`: the same of a project. `Chunks`: the run of a root is the scope's chunk visit.
-- `Pruning`: a gate goes into the successors. `Columns`: what the columns that the visits read say. `Filling`, `Hosting`: hosts in turn, into slices and over
-- columns. `OverTable`: what the slice that has the columns of a project gives the visits, and the run that they make.
pub mod Actuals
pub mod OfProject
pub mod Pruning
pub mod Columns
pub mod Filling
pub mod Hosting
pub mod Chunks
pub mod OverTable
