-- Closing a plan by rounds.
pub mod inner
