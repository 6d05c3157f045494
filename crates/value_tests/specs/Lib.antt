-- What has passed before test 4 is made.
pub mod Passed
