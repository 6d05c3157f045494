-- `Spreading`: closing a set along rows. `Edging`: records as edges. `OfProject`: a project's.
pub mod Spreading
pub mod Edging
pub mod OfProject
