-- What only inner contracts and proofs speak of: `Cells`, a list's values row by row, as text; `Steps`, what the contracts say.
pub mod Cells
pub mod Steps
