-- `by_marks`: none, one state more, all that are alive.
use Rattle.laws.specs.Loops.{witness_same}
use Rattle.sets.proofs.Gathering.{over_start, over_more, over_end}
use Rattle.walk.specs.CoReachable.{Along}
use Rattle.walk.proofs.CoReachableLaws.{by_marks_end, joined_more, gathered_none, gathered_as}
use Rattle.walk.proofs.coreachable.by_marks.Goals as goal

pub loop-t-init : goal.loop-t-init
loop-t-init c =
    rw (c.into_iter-t-iterator.ensures.into_iter_gives, c.iter-t-items.ensures)
    (over_start (λ none. gathered_none _ (λ B w. none w.number w.of)))

pub loop-t-preserved : goal.loop-t-preserved
loop-t-preserved c = over_more c.loop-t.invariant c.in-Some.ensures.steps
    (λ x v. joined_more (Along c.args.paths.now.sheet.now c.args.paths.now.finals.0 c.args.now.now c.args.s) x v c.along.ensures
    c.union-out.ensures)

pub returns : goal.returns
returns c = over_end c.loop-t.invariant c.in-None.ensures.steps.0
    (λ same v. by_marks_end _ _ _ _ _ _ c.requires.alive (gathered_as _ _ _ (λ B. witness_same same) v))
