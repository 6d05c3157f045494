-- `Part`: a part of a text. `Digits`: the number whose digits stand first in it.
pub mod Part
pub mod Digits
