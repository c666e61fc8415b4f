-- `absorb`: the sets of one individual more are taken.
use Rattle.std.proofs.Common.{refl, rules}
use Rattle.walk.proofs.AbsorbLaws.{absorbs_none, absorbs_more}
use Rattle.walk.proofs.walk.absorb.Goals as goal

pub loop-b-init : goal.loop-b-init
loop-b-init c = absorbs_none _ _ c.requires.ready c.requires.long

pub loop-b-preserved : goal.loop-b-preserved
loop-b-preserved c =
    absorbs_more _ _ _ _ _ c.loop-b.walk _ c.requires.ready.long c.requires.long c.loop-b.invariant c.loop-b-test.true c.union.ensures
    c.union-in-loop-b.ensures (search rules) refl refl
