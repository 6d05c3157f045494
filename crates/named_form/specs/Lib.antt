-- The text form with the list of names.
pub mod NamedForm
