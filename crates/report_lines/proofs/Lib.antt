-- The report over no name.
pub mod Reports
