-- `at`: one state more.
use Rattle.walk.proofs.TellLaws.{gathered_none, gathered_more, gathered_end}
use Rattle.walk.proofs.multi.at.Goals as goal

pub loop-s-init : goal.loop-s-init
loop-s-init c = rw (c.into_iter-s-iterator.ensures.into_iter_gives, c.iter-s-items.ensures) (gathered_none _ _)

pub loop-s-preserved : goal.loop-s-preserved
loop-s-preserved c = rw c.word_of-out.ensures (gathered_more _ _ 32 _ _ _ _ c.loop-s.invariant c.in-Some.ensures.steps)

pub returns : goal.returns
returns c = gathered_end _ _ _ _ c.loop-s.invariant c.in-None.ensures.steps.0
