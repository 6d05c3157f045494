-- `Lines`: lines as they grow. `Whole`: the steps over pieces of an input ask for what the whole does.
mod Lines
pub mod Whole
