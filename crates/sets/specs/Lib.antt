pub mod Bits
pub mod Rows
pub mod Relations
