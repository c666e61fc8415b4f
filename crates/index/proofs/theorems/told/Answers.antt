-- What a listener is told.
use Rattle.index.proofs.ToldOnce.{told-once, told-there, told-counts, counts-once, counts-there, told-make, told-most}
use Rattle.index.proofs.theorems.told.Goals as goal

pub returns : goal.returns
returns c = record {
  one_telling = told-once;
  a_telling = told-there;
  counts_of_marks = told-counts;
  one_row = counts-once;
  a_row = counts-there;
  makes_sheet = told-make;
  at_most = told-most;
}
