-- What test 4 asks.
mod Passed
