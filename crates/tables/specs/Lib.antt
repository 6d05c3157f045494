-- The project as document 01 has it: its columns, its derived readings, the tests 1 to 4 and 10, and what an operation answers.
pub mod Project
pub mod Readings
pub mod Refusal
pub mod Answers
pub mod Lookups
pub mod Accepted
