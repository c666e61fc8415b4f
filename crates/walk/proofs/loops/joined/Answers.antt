-- `joined`: none, one concept more, all.
use Rattle.std.proofs.Common.{rules}
use Rattle.sets.proofs.Gathering.{over_start, over_more, over_end}
use Rattle.walk.proofs.LoopPartLaws.{gives_none, gives_more, gives_as}
use Rattle.walk.proofs.loops.joined.Goals as goal

pub loop-concept-init : goal.loop-concept-init
loop-concept-init c =
    rw (c.into_iter-concept-iterator.ensures.into_iter_gives, c.iter-concept-items.ensures)
    (over_start (λ none. gives_none (search rules) none))

pub loop-concept-preserved : goal.loop-concept-preserved
loop-concept-preserved c =
    let j = rw c.number.ensures at c.add_relation.ensures in
    over_more c.loop-concept.invariant c.in-Some.ensures.steps (λ x v. gives_more x v j)

pub returns : goal.returns
returns c = over_end c.loop-concept.invariant c.in-None.ensures.steps.0 (λ same v. gives_as same v)
