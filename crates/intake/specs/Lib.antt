pub mod Next
pub mod Entries
pub mod Stops
pub mod Verdicts
pub mod TakesIn
pub mod Held
pub mod Compared
pub mod Laws
