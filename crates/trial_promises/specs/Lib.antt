-- What a buyer is told of tried loads.
pub mod Tried
pub mod Witnesses
