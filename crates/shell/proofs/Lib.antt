-- Theorems: what follows of what an input writes, whatever is said of a file.
pub mod WritesLaws
-- Laws that the functions' proofs cite.
pub mod Reporting
