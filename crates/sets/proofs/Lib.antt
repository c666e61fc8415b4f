pub mod Laws
pub mod Gathering
pub mod Once
pub mod RowLaws
