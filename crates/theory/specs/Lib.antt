-- The theory of the loop sheet (docs/RULES.md, section 6) over any rules' kind, each definition after
-- the notions that it uses.
-- A run of moves, the rules' kind, and elements grown from roots.
pub mod Run
pub mod Kind
pub mod Tree
-- The sheet round by round, and how many marks a round makes.
pub mod Sheet
pub mod Marks
-- All marks of the closed sheet, each once, in one order.
pub mod Listing
-- The question with one named end.
pub mod Onward
-- Walks by a list of marks.
pub mod Listed
-- What the laws speak of: rules as tests, and a kind that yields more.
pub mod Tests
pub mod Grows
-- The laws that the functions of src/ promise.
pub mod LawsOfSheet
pub mod LawsOfMarks
pub mod LawsOfListing
pub mod LawsOfGrowth
pub mod LawsOfLeaving
