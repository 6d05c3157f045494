-- `Searches`: meeting modules in turn, as a code's loop does. `Once`: of targets that repeat, the first alone yields a path. `States`: the search by states
-- finds the circles.
pub mod Searches
pub mod Once
pub mod States
