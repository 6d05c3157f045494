-- ECMA-262's module evaluation, and the premises under which document 01 says that it gives the expected order.
pub mod Evaluation
pub mod Premises
