-- The automaton reads the words of its expression; the definitions over the tree are what their
-- names say; a row is at most one expression; the limit of the depth refuses no more than too deep
-- brackets do.
pub mod Words
pub mod Meant
pub mod Once
pub mod AnyDepth
-- Laws of the code: parts, the reader, its loops, the depth.
pub mod PartLaws
pub mod RowLaws
pub mod ReaderLaws
pub mod LoopLaws
pub mod DepthLaws
-- Laws of the tables.
pub mod ListingLaws
pub mod TableLaws
pub mod FitsLaws
pub mod AnswerLaws
-- What a row is answered, and that it is one answer.
pub mod Clauses
