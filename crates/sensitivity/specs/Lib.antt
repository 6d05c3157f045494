-- Sensitive modules. `Ready` is what functions on columns ask, `View` what the statements and uses of columns are.
pub mod Marks
pub mod Ready
pub mod View
