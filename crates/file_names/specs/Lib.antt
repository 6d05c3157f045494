-- `Asked`: what an input asks for, as a whole. `Steps`: the same byte by byte. `Whole`: that the two agree.
pub mod Asked
pub mod Steps
pub mod Whole
