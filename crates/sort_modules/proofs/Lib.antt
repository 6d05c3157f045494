-- What a walk that numbers makes.
pub mod Numbers
