-- `Roots`: the entry chunk of a root, and when a root is an analysed entry. `AsRead`: entries are read as they are written.
pub mod Roots
pub mod AsRead
