-- What holds while a report is made.
pub mod Sound
