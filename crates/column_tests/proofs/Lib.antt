-- How the loops of the tests answer as their definitions do. `Chain`: what a test answered, by the branch that was taken on it.
pub mod Chain
mod Every
mod Once
mod Risen
