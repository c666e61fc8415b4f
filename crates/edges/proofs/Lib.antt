-- What is put before the edges of an individual; counting and placing; the edges that are left.
pub mod WithLaws
pub mod CountLaws
pub mod PlaceLaws
pub mod LeftLaws
-- What callers use: which edges there are, and what they mean.
pub mod EdgeLaws
pub mod GivenLaws
pub mod Mean
