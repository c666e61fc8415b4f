-- `Accepting::fill`: one individual more.
use Rattle.laws.specs.Fill.{one_more}
use Rattle.walk.proofs.AcceptingLaws.{accepting_is, accepting_all}
use Rattle.walk.proofs.accepting.Accepting.fill.Goals as goal

pub accepting_beside-requires : goal.accepting_beside-requires
accepting_beside-requires c = c.others-left.ensures

pub loop-a-preserved : goal.loop-a-preserved
loop-a-preserved c =
    one_more _ _ _ _ _ _ _ c.loop-a.invariant c.loop-a-test.true
    (λ _. accepting_is _ _ _ _ _ _ _ _ c.shared_concepts.ensures c.accepting_of-least.ensures c.accepting_of-shared.ensures
    c.loop-a-test.true c.accepting_beside.ensures)

pub returns : goal.returns
returns c = accepting_all _ _ _ _ _ _ c.co_reachable-onward.ensures c.loop-a.invariant c.loop-a-test.false
