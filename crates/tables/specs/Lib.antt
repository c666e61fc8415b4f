pub mod Every
pub mod Letters
pub mod Records
pub mod Lists
pub mod Order
pub mod Tests
pub mod Refusals
pub mod Asks
