-- Theorem: what comes next of an input is one thing.
pub mod LinesLaws
-- Laws that the functions' proofs cite.
pub mod Held
pub mod FirstLine
pub mod Parts
pub mod Placed
