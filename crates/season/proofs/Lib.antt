-- `Keeping`: a byte of the input keeps the totals sound.
pub mod Keeping
