pub mod Given
pub mod Told
pub mod Made
mod Seven
pub mod Front
pub mod Rounds
pub mod Deeds
pub mod AsksLaws
mod AreasLaws
pub mod SameLaws
pub mod ListingLaws
pub mod ListDeeds
pub mod DepartsLaws
pub mod HeldLaws
pub mod ListOnce
pub mod Accepted
pub mod SalvageLaws
