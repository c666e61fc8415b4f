-- One state more, and at the end all.
use Rattle.sets.proofs.Gathering.{over_more, over_end}
use Rattle.sheet.proofs.Laws.{from_more, concepts_covered}
use Rattle.sheet.proofs.through.concepts.Goals as goal

pub loop-s-preserved : goal.loop-s-preserved
loop-s-preserved c = over_more c.loop-s.invariant c.in-Some.ensures.steps
    (λ x v. from_more _ _ _ _ _ x v c.concepts_from.ensures c.union-all.ensures)

pub returns : goal.returns
returns c = concepts_covered c.args.delta.now c.args.from.0 _ c.requires
    (over_end c.loop-s.invariant c.in-None.ensures.steps.0 (λ same v. record { has = λ s m. v.has s ((same s).1 m) }))
