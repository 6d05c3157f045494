-- The promises of a load, proved.
pub mod LoadWalks
pub mod LoadRows
pub mod Load
pub mod LoadEvaluation
pub mod OwnTerms
