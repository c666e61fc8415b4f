-- Loops that look for one, the exclusions as sets, and the edges of an individual.
pub mod SeekLaws
pub mod ConceptLaws
pub mod RoleLaws
pub mod TriedLaws
pub mod PastLaws
mod FactMean
-- What callers use: what the answers mean, and that each is one.
pub mod Mean
pub mod Once
