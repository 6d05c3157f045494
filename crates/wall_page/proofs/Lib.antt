-- `Fits`: a page has at most a line a module. `Promise`: what the operation promises of an accepted call. `Whole`: with the grounds and the plan that two calls left, the page is
-- the entry's. `OfEntries`: what holds of an entry's page.
pub mod Fits
pub mod Promise
pub mod Whole
pub mod OfEntries
