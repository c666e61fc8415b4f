pub mod Faults
pub mod Writes
pub mod Reports
pub mod Message
pub mod Laws
