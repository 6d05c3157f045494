-- `Digits`: a digit is taken, and what is none ends the number.
pub mod Digits
