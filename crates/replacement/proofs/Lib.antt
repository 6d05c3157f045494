-- `Chains`: chains end, and what is read for a module.
pub mod Chains
