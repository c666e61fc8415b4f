-- What the public contracts name.
pub mod Strides
pub mod Loops
pub mod Batches
pub mod Asks
pub mod Finals
pub mod Covers
pub mod Walks
pub mod CoReachable
pub mod Accepting
pub mod Meant
-- What the functions keep.
pub mod LoopParts
pub mod Directions
pub mod Transposed
pub mod Images
pub mod Guides
pub mod Known
pub mod Passes
pub mod Sources
pub mod MultiWalks
pub mod Telling
