-- `keep`: what the members reach is put into the next place, and then each member gets that place.
use Rattle.std.proofs.Common.{refl}
use Rattle.walk.proofs.KnownLaws.{kept_first, kept_more}
use Rattle.walk.proofs.known.Known.keep.Goals as goal

pub loop-f-init : goal.loop-f-init
loop-f-init c = kept_first _ _ _ c.if-k-ge-KEPT.false refl refl refl

pub loop-f-preserved : goal.loop-f-preserved
loop-f-preserved c = kept_more _ _ _ _ _ c.loop-f-test.true c.put.ensures _ c.loop-f.invariant

pub returns : goal.returns
returns c = λ s start is w. (c.loop-f.invariant.known s start is w).0
