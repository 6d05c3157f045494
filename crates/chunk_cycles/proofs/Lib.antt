-- `Paths`: labels and chunk reach of a project, by paths over its import rows. `Reaching`: chunk reach by labels. `OverTable`: a table's labels.
-- `Promise`: labels and chunk reach of a project as it is written and as it is read. `Cases`: labels of a listing.
pub mod Paths
pub mod Reaching
pub mod OverTable
pub mod Promise
pub mod Cases
