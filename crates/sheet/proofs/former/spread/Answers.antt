-- One row more, and at the end all.
use Rattle.std.proofs.Common.{arith}
use Rattle.sheet.proofs.FormerLaws.{all_zero, spreading_start, spreading_more, spreading_end}
use Rattle.sheet.proofs.former.spread.Goals as goal

pub loop-s-init : goal.loop-s-init
loop-s-init c =
    spreading_start _ _ (record { stored-long = c.requires.stored-long; area-long = omega (arith, c.fill.ensures.len, c.requires.area-long) })
    (all_zero _ _ (c.fill.ensures.after (λ y p. p)))

pub loop-s-preserved : goal.loop-s-preserved
loop-s-preserved c =
    spreading_more _ _ _ _ _ _ _ _ c.loop-s.invariant (omega (arith, c.loop-s-test.true)) (omega arith) (omega arith) (omega arith) (omega arith)
    c.copy_from_slice.ensures.after

pub returns : goal.returns
returns c = spreading_end _ _ _ c.loop-s-test.false c.loop-s.invariant c.loop-s.auto.s-end
