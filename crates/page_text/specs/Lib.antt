-- The page of an entry as bytes.
pub mod Page
pub mod inner
