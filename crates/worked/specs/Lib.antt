pub mod BaseList
pub mod Cases
pub mod Clashing
pub mod Laws
