-- `same`: two sets differ, or one more is equal.
use Rattle.std.proofs.Common.{◌≡◌, sym, ◌∙◌, below_more}
use Rattle.std.proofs.lemmas.Bool.{eqb-true, not-false}
use Rattle.sets.specs.Relations.{concepts_at}
use Rattle.walk.proofs.coreachable.same.Goals as goal

pub loop-s-preserved : goal.loop-s-preserved
loop-s-preserved c =
    below_more (λ k. concepts_at c.args.now.now k ≡ concepts_at c.args.next.now k) _ c.loop-s.invariant
    (eqb-true _ _ (not-false _ (sym c.ne.ensures ∙ c.if-ne.false)))
