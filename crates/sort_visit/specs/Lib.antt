-- What the visits ask, and the state of their walk.
pub mod Visit
