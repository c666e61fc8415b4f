pub mod Lists
pub mod Held
pub mod Laws
pub mod Kept
