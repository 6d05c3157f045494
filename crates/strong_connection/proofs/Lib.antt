-- `Firsts`: the first number that passes a test. `Strong`: reach, connection, components and labels over any graph, by paths.
-- `Rows`: rows as edges. `Visiting`: the loop of a visit.
pub mod Firsts
pub mod Strong
pub mod Rows
pub mod Visiting
