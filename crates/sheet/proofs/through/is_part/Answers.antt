-- One row more, and at the end nothing is left over.
use Rattle.std.proofs.Common.{arith}
use Rattle.sheet.proofs.Laws.{part_more, part_end}
use Rattle.sheet.proofs.through.is_part.Goals as goal

pub loop-s-preserved : goal.loop-s-preserved
loop-s-preserved c = part_more _ _ _ _ _ _ c.loop-s.invariant c.minus-row.ensures c.union-over.ensures

pub returns : goal.returns
returns c = part_end _ _ _ _ _ (omega arith) c.loop-s.invariant c.is_empty.ensures
