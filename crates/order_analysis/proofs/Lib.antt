-- `Seeds`: the whole analysis' seeds. `Adding`: a loop over roots adds their risks. `Analyses`: how its plan starts. `Promise`: how long it is.
pub mod Seeds
pub mod Adding
pub mod Analyses
pub mod Promise
