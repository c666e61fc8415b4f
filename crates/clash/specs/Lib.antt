-- What the public contracts name.
pub mod Clashes
pub mod Conflicts
pub mod Meant
-- What the private ones name: how far the edges of an individual are tried.
pub mod Tried
