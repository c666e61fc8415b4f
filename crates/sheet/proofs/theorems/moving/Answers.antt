-- One outcome each, and each takes back the other.
use Rattle.sheet.proofs.FormerOnce.{one-moved, one-moved-back, there-and-back, back-and-there, sheet-moved, sheet-moved-back}
use Rattle.sheet.proofs.theorems.moving.Goals as goal

pub returns : goal.returns
returns c = record {
  one_moved = one-moved;
  one_moved_back = one-moved-back;
  there_and_back = there-and-back;
  back_and_there = back-and-there;
  sheet_moved = sheet-moved;
  sheet_moved_back = sheet-moved-back;
}
