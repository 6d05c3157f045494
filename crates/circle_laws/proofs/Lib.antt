-- `Found`: what is found. `Sorted`: in which order modules are numbered. `Project`: of a project. `Examples`: circles computed.
pub mod Found
pub mod Sorted
pub mod Project
pub mod Examples
