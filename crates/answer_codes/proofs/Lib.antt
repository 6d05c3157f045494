-- `ToldApart`: how the exported functions' answers are told apart, `CheckToldApart`: and those of the check of a plan.
pub mod ToldApart
pub mod CheckToldApart
