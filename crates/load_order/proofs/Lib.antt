-- `LoadOrders`: the laws of the stable sort and of the load order. `Sorting`: some values sorted in place. `Arranging`: the rows of each owner sorted
-- in place, and the laws of rows and values. `OverTable`: the chunk imports of a project.
pub mod LoadOrders
pub mod Sorting
pub mod Arranging
pub mod OverTable
