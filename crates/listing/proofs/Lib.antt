-- Theorems: what is written of an input.
pub mod There
pub mod Alike
pub mod Appended
pub mod Lines
pub mod Inputs
-- Laws that the functions' proofs cite.
pub mod Tidied
pub mod Telling
pub mod Marks
pub mod Reported
pub mod Keeping
