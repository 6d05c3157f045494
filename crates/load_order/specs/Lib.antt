-- The order in which a chunk's imported chunks load.
pub mod LoadOrder
pub mod inner
