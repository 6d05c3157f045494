-- `Ends`: listing the seeds, row by row, and marks and a list made of places.
pub mod Ends
