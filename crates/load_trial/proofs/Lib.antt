-- `Promise`: what the operations promise of an accepted call.
pub mod Promise
