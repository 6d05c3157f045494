-- `Threading`: how a column is threaded. `Going`: how the threads lead through the rows of a value. `Turns`: loops over what is handed out from the front.
pub mod Threading
pub mod Going
pub mod Turns
