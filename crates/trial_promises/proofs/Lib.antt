-- The statements of specs/, proved.
pub mod Tried
pub mod Witnesses
