pub mod Pairing
pub mod PairLaws
pub mod StepLaws
pub mod Holding
-- What the rules exclude.
pub mod ApartLaws
pub mod GatherLaws
pub mod ConflictLaws
pub mod DoomedLaws
pub mod ExcludedMean
pub mod EntryLaws
pub mod Sifting
pub mod Marking
