-- One row more is laid, and at the end all.
use Rattle.std.proofs.Common.{arith}
use Rattle.sheet.proofs.AreaLaws.{going_start, going_more, going_end}
use Rattle.sheet.proofs.areas.lay.Goals as goal

pub loop-q-init : goal.loop-q-init
loop-q-init c = going_start _ _ c.told-area

pub loop-q-preserved : goal.loop-q-preserved
loop-q-preserved c = rw c.copy_from_slice.ensures.after
    (going_more _ _ _ _ _ c.loop-q.invariant (omega (arith, c.loop-q-test.true)) c.to_le_bytes.ensures (omega arith))

pub returns : goal.returns
returns c = going_end _ _ _ (omega arith) c.loop-q.invariant
