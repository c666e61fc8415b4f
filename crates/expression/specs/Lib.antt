-- What is typed, what it means, and the automaton that it is given.
pub mod Marks
pub mod Depth
pub mod Tree
pub mod Grammar
pub mod Automaton
pub mod Listed
pub mod Answer
pub mod Fits
pub mod Meant
-- What the code speaks of beside these.
pub mod Letters
pub mod Numbered
pub mod Ends
pub mod Parts
pub mod Reader
pub mod Listing
pub mod Answered
