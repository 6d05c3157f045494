-- Names in the order of their bytes, and those of rolldown's own modules.
pub mod Sooner
pub mod Runtime
pub mod inner
