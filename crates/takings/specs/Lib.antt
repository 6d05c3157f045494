-- Planning by takings.
pub mod Taking
