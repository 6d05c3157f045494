-- `Listing`: listing the roots. `Reached`: what they reach, by marks. `Choosing`: the candidates. `Few`: how many entries there are at most.
pub mod Listing
pub mod Reached
pub mod Choosing
pub mod Few
