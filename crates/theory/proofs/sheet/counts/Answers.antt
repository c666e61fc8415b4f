-- How many marks rounds make: the laws of MarksLaws.
use Rattle.theory.specs.Sheet.{Mark}
use Rattle.theory.specs.Marks.{Added}
use Rattle.theory.proofs.MarksLaws.{counted-once, round-counts-once, stands-there, counts-there, counts-make-sheet, adds-some, adds-none, sum-most, adds-most, counts-most}
use Rattle.theory.proofs.sheet.counts.Goals as goal

pub returns : goal.returns
returns g c = let K = g.K.AnyKind.kind in record {
  stands_once = λ n. counted-once K (Mark K n);
  adds_once = λ n. counted-once K (Added K n);
  counts_once = round-counts-once K;
  stands_there = stands-there K;
  counts_there = counts-there K;
  make_sheet = counts-make-sheet K;
  some = adds-some K;
  none = adds-none K;
  sum_at_most = sum-most K;
  adds_at_most = adds-most K;
  counts_at_most = counts-most K;
}
