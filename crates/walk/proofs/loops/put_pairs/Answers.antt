-- `put_pairs`: no pair is put in, then one more at each turn.
use Rattle.walk.proofs.LoopPartLaws.{pairs_none, pairs_more, pairs_all}
use Rattle.walk.proofs.loops.put_pairs.Goals as goal

pub loop-q-init : goal.loop-q-init
loop-q-init c = rw (c.requires.rows, c.requires.useful) (pairs_none _ _)

pub put_pair-requires-clause-ready : goal.put_pair-requires-clause-ready
put_pair-requires-clause-ready c = c.loop-q.invariant.ready

pub loop-q-preserved : goal.loop-q-preserved
loop-q-preserved c =
    pairs_more _ _ _ _ _ _ _ _ c.loop-q.invariant c.loop-q-test.true c.left_at.ensures c.put_pair.ensures.useful c.put_pair.ensures.ready
    c.put_pair.ensures.put

pub returns : goal.returns
returns c = pairs_all _ _ _ _ c.loop-q.invariant c.loop-q-test.false
