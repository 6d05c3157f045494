-- In which way modules execute, and what record rows trigger.
pub mod inner
