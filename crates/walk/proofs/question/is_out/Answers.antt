-- `is_out`: one was, or one more was not.
use Rattle.std.proofs.Common.{below_more}
use Rattle.sets.specs.Bits.{Meets}
use Rattle.sets.specs.Relations.{states_at}
use Rattle.walk.proofs.CoReachableLaws.{refuted}
use Rattle.walk.proofs.TellLaws.{not_out}
use Rattle.walk.proofs.question.is_out.Goals as goal

pub loop-a-preserved : goal.loop-a-preserved
loop-a-preserved c =
    below_more (λ k. Meets (states_at c.args.reached.now k) (states_at c.args.accepting.now.rows k) → ⊥) _ c.loop-a.invariant
    (refuted c.intersects.ensures c.if-intersects.false)

pub returns : goal.returns
returns c = not_out _ _ _ c.loop-a.invariant c.loop-a-test.false
