-- `Promise`: the promise of an accepted call. `Named`: an entry with the members as they are read.
pub mod Promise
pub mod Named
