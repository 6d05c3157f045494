-- `Places`: the taken ones by their places. `Fronts`: a list's front. `Standing`: rule (i) by two places of an order. `Stepping`: a step.
pub mod Places
pub mod Fronts
pub mod Standing
pub mod Stepping
