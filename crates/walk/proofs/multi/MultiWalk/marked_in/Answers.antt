-- `marked_in`: one individual more.
use Rattle.walk.proofs.TellLaws.{out_none, out_more, out_end}
use Rattle.walk.proofs.multi.MultiWalk.marked_in.Goals as goal

pub loop-b-init : goal.loop-b-init
loop-b-init c = out_none _ _

pub loop-b-preserved : goal.loop-b-preserved
loop-b-preserved c = out_more _ _ _ _ _ c.loop-b.invariant c.at-out.ensures

pub returns : goal.returns
returns c = out_end _ _ _ _ c.loop-b.invariant c.loop-b-test.false c.loop-b.auto.b-end
