-- `Accepted`: what is accepted as it is written is accepted as it is read.
pub mod Accepted
-- `Read`: a table that is read with columns from slices.
pub mod Read
