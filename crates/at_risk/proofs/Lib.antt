-- `Listed`: the two orders of an entry. `Joined`: its risk, added to a set.
pub mod Listed
pub mod Joined
