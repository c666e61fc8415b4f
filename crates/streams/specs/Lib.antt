pub mod Lines
pub mod Input
pub mod Gives
pub mod Takes
pub mod Pieces
pub mod Puts
pub mod Laws
