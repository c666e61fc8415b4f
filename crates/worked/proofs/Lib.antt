-- That the cases hold, and the list of the base collection: tests that the checker computes.
pub mod BaseListHolds
pub mod CasesHold
pub mod SheetComputed
pub mod SalvagesHold
