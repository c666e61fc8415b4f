-- One state more.
use Rattle.std.proofs.Common.{arith}
use Rattle.sheet.proofs.Laws.{all_none, all_more}
use Rattle.sheet.proofs.marks.Marks.count.Goals as goal

pub loop-s-init : goal.loop-s-init
loop-s-init c = record { is = all_none _; small = omega arith }

pub loop-s-preserved : goal.loop-s-preserved
loop-s-preserved c = record {
  is = all_more _ _ _ _ c.loop-s.invariant.is c.count_from-n.ensures.count;
  small = omega
      (arith, c.count_from-n.ensures.small, c.loop-s.invariant.small);
}
