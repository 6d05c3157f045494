-- The words on lists that the definitions of all crates share.
pub mod Words
