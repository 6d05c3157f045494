-- `Lines`: every line has 41 bytes, and past the last there is none. `Promise`: what the operation promises of an accepted call.
pub mod Lines
pub mod Promise
