-- `with_marks`: one state more.
use Rattle.std.proofs.Common.{ap, rules}
use Rattle.laws.specs.Fill.{none_done, one_more}
use Rattle.sets.specs.declared.concepts.ConceptSet.{ConceptSet}
use Rattle.walk.proofs.CoReachableLaws.{marked_one, marked_all}
use Rattle.walk.proofs.coreachable.with_marks.Goals as goal

pub loop-s-init : goal.loop-s-init
loop-s-init c = none_done _ _ _ _ (search rules)

pub loop-s-preserved : goal.loop-s-preserved
loop-s-preserved c =
    one_more _ _ _ _ _ _ _ c.loop-s.invariant c.loop-s-test.true
    (λ e. marked_one _ _ _ _ _ _ c.by_marks.ensures c.union.ensures (ap (λ (x : ConceptSet). x.0) e) (search rules))

pub returns : goal.returns
returns c = marked_all _ _ _ _ (search rules) c.loop-s.invariant c.loop-s-test.false
