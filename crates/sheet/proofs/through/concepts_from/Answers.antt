-- One row more.
use Rattle.sets.proofs.Gathering.{over_more, over_end}
use Rattle.sheet.proofs.Laws.{concepts_more}
use Rattle.sheet.proofs.through.concepts_from.Goals as goal

pub loop-t-preserved : goal.loop-t-preserved
loop-t-preserved c = over_more c.loop-t.invariant c.in-Some.ensures.steps (λ x v. concepts_more _ _ _ _ _ x v c.union-all.ensures)

pub returns : goal.returns
returns c = over_end c.loop-t.invariant c.in-None.ensures.steps.0 (λ same v. record { has = λ t m k a. v.has t ((same t).1 m) k a })
