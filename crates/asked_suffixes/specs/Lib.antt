-- What rule (i) asks for with a plan as it is given.
pub mod inner
