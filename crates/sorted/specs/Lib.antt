pub mod Rows
pub mod Same
pub mod Laws
