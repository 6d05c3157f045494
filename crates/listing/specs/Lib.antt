-- What the reader promises.
pub mod Reading
pub mod AsTable
pub mod inner
