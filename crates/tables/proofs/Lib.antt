-- What holds of the project's tables.
pub mod Rows
pub mod Rise
pub mod Greater
pub mod Starts
pub mod OwnerRows
pub mod Targets
pub mod Accepted
pub mod Scan
pub mod Number
pub mod Answering
