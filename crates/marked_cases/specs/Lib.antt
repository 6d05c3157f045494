-- Document 01's marked cases, and what an operation's promise gives of a call.
pub mod Listing
pub mod Calls
pub mod Cases
pub mod OfCalls
