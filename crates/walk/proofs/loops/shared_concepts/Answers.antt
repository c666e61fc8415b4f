-- `shared_concepts`: one individual more.
use Rattle.std.specs.Prelude.{◌≡◌, length}
use Rattle.std.proofs.Common.{arith, rules, below_more}
use Rattle.kinds.specs.Kinds.{most_individuals}
use Rattle.sets.specs.Bits.{IsEmpty}
use Rattle.sets.specs.Relations.{concepts_at}
use Rattle.walk.specs.LoopParts.{Within}
use Rattle.walk.proofs.loops.shared_concepts.Goals as goal

pub loop-concepts-preserved : goal.loop-concepts-preserved
loop-concepts-preserved c =
    below_more (λ a. (IsEmpty (concepts_at c.args.individuals.now a) → ⊥)
    → Within c.shared_with-out.result.0 (concepts_at c.args.individuals.now a)) _
    (λ a l some k p. c.loop-concepts.invariant a l some k (c.shared_with-out.ensures.keeps k p)) c.shared_with-out.ensures.own

pub returns : goal.returns
returns c = λ a h. let e : length c.args.individuals.now ≡ most_individuals =
    search rules in c.loop-concepts.invariant a (omega (arith, c.loop-concepts-test.false))
