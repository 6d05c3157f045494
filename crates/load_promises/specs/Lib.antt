-- What is promised of a load with the plan carried out, and at the operations' own terms.
pub mod Load
pub mod LoadEvaluation
pub mod OwnTerms
