-- The text form: what the text of a project and of a result line is.
pub mod Form
pub mod Parse
