-- `PostOrder`: evaluation executes the post-order, empties the stack and settles what is reached. `Agreement`: only what is reached matters.
-- `Expected`: 01's sentence on the expected order. `Assertions`: the standard's own. `Witness`, `Apart`, `Cases`: computed cases.
pub mod Steps
pub mod Runs
pub mod PostOrder
pub mod Assertions
pub mod Agreement
pub mod Expected
pub mod Cases
pub mod Witness
pub mod Apart
