-- What the public contracts name.
pub mod Rows
pub mod Meant
-- What the private ones name.
pub mod Marks
pub mod Sides
