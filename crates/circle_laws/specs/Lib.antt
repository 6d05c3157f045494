-- What holds of the import circles: over any successor function, and of a project. Each statement is a type that proofs/ inhabits.
pub mod Rings
pub mod Statements
