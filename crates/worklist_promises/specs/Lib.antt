-- What is promised of planning by a worklist.
pub mod Worklists
