pub mod Excludes
pub mod Pairs
pub mod Steps
-- What the private contracts of the exclusions name.
pub mod Exclusions
pub mod Entries
pub mod Salvage
