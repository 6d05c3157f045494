-- `Labelling`: the loop that labels. `Numbers`: how chunks are numbered, and that numbers fall
-- around no cycle. `Components`: how labels come about.
pub mod Labelling
pub mod Numbers
pub mod Components
