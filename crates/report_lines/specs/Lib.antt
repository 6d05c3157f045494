-- The lines of a report, and the report.
pub mod Report
