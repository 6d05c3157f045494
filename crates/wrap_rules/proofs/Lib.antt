-- The theory of the four rules and of the plan: `Monotone`, `Plans`, `Passes`. `Rows`: each rule by the rows that make it ask. `Suffix`: rule (i) splits an order.
-- `Sets`: the marks that the passes read. `Roots`: the analysed entries' roots.
pub mod Monotone
pub mod Plans
pub mod Passes
pub mod Suffix
pub mod Rows
pub mod Sets
pub mod Roots
