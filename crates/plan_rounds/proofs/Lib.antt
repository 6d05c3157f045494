-- `Rounds`: a pass of each rule in turn, until nothing changes. `Starting`: what closing starts from.
pub mod Rounds
pub mod Starting
