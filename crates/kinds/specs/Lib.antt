pub mod Kinds
pub mod Asks
pub mod Answer
