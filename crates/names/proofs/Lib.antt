-- The lines of a text, and the test of their form.
pub mod Lines
