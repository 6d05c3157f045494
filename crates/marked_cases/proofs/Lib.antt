-- The marked cases, proved.
pub mod Computing
pub mod Cases
pub mod OfCalls
