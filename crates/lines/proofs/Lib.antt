-- The laws behind the line writer and the list of members.
pub mod Puts
pub mod Printing
pub mod Written
pub mod Members
pub mod Answered
