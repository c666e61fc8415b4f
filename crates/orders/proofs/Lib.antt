-- Laws of marks, of the rules of a table, of closing, of what follows, of rows of sets, of transposing.
pub mod MarkLaws
pub mod Listing
pub mod Table
pub mod Close
pub mod Follow
pub mod SideLaws
pub mod RowLaws
pub mod TransposeLaws
-- What callers use: what the marks mean, and that they are one.
pub mod Mean
pub mod Once
