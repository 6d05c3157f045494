pub mod Edging
