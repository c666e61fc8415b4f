pub mod Dedups
pub mod Members
pub mod Chunks
pub mod TidyLaws
pub mod SetLaws
pub mod Unique
pub mod Refused
