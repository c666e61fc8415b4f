-- Theorems about the definitions.
pub mod SheetLaws
pub mod RoundFrom
pub mod GrowthLaws
pub mod MarksGrow
pub mod Onward
-- Calculation: the rules as tests that compute, and that they say what the definitions say.
pub mod Tests
pub mod OnwardTests
pub mod MarksLaws
pub mod ListingLaws
pub mod ListedLaws
