pub mod Copy
pub mod Asking
pub mod Framed
pub mod Ready
pub mod Laws
pub mod Kept
