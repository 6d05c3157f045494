-- `Marking`: the suffixes of several orders, and that they are what rule (i) asks for.
pub mod Marking
