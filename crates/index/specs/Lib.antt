-- What is asked, and of what.
pub mod Preparation
pub mod Marks
pub mod Rounds
pub mod Asked
-- What the rooms find.
pub mod Works
pub mod OneProof
pub mod Ground
pub mod Worked
-- The words of the clauses.
pub mod Clauses
pub mod Worlds
pub mod Row
-- What the theorems say.
pub mod Once
