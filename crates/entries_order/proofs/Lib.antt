-- `Parts`: each entry's part of the list. `Turns`: visits in turn list it.
pub mod Parts
pub mod Turns
