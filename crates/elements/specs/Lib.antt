-- What the public contract names.
pub mod Concepts
pub mod Generating
pub mod Meant
-- What the private ones name.
pub mod Steps
