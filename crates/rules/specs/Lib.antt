pub mod Rows
pub mod Steps
pub mod Transitions
pub mod Made
pub mod RowsOf
pub mod Meant
