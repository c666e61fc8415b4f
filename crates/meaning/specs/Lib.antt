-- Definitions, in the order of docs/RULES.md, each after the notions that it uses.
pub mod Collection
pub mod Lent
pub mod Orders
pub mod Model
pub mod Question
pub mod Leaving
pub mod Asks
pub mod Lite
pub mod Walk
pub mod Listing
pub mod Layout
pub mod Outcome
-- What is demanded of it.
pub mod Demands
pub mod SameSets
pub mod Deeds
-- What facts and rules force, in every world.
pub mod Worlds
-- What the laws speak of.
pub mod Clash
pub mod Excluded
pub mod StraightBack
-- The laws that the functions of src/ promise.
pub mod LawsOfOrders
pub mod LawsOfModel
pub mod LawsOfSheet
pub mod Bytes
pub mod Former
pub mod LawsOfMarks
pub mod LawsOfListing
pub mod LawsOfCalls
pub mod LawsOfDeeds
pub mod LawsOfWorlds
