-- The post-order walk, the paths it follows, closing a set under a rule, and members that join one by one.
pub mod Walk
pub mod Reach
pub mod Close
pub mod Joining
