pub mod Meant
pub mod Unique
pub mod Walked
