-- `Held`: demand 3 of what a promise leaves. `Callers`: for the two ways of calling. `Beside`: calls on a table `with_records` are calls of the second way.
-- `Witnesses`: calls that meet the premises.
pub mod Held
pub mod Callers
pub mod Beside
pub mod Witnesses
