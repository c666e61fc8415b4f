-- What the public contracts name.
pub mod Edges
pub mod Packed
pub mod Visits
pub mod Meant
-- What the private ones name: how far the counting sort has come.
pub mod Making
