-- One fact and both tables; the generating roles.
pub mod FactLaws
pub mod ReachLaws
-- What callers use: what the answers mean.
pub mod Mean
pub mod GeneratingMean
-- What they are is one.
pub mod Once
