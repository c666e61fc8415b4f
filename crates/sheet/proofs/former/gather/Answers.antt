-- One row more, and at the end all.
use Rattle.std.proofs.Common.{arith}
use Rattle.sheet.proofs.FormerLaws.{rows_start, rows_more, rows_end}
use Rattle.sheet.proofs.former.gather.Goals as goal

pub loop-s-init : goal.loop-s-init
loop-s-init c = rows_start _ _ c.requires.long

pub loop-s-preserved : goal.loop-s-preserved
loop-s-preserved c =
    rows_more _ _ _ _ _ _ _ _ c.loop-s.invariant (omega (arith, c.loop-s-test.true)) (omega arith) (omega arith) (omega arith) (omega arith)
    c.copy_from_slice.ensures.after

pub returns : goal.returns
returns c = rows_end _ _ _ c.loop-s-test.false c.loop-s.auto.s-end c.loop-s.invariant c.requires.within
