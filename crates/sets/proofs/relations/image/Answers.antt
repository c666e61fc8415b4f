-- `image`: none, one state more, all.
use Rattle.laws.specs.Loops.{put_more, put_all}
use Rattle.sets.proofs.Gathering.{over_more, over_end}
use Rattle.sets.proofs.relations.image.Goals as goal

pub loop-s-preserved : goal.loop-s-preserved
loop-s-preserved c =
    let u = rw c.successors.ensures at c.union-out.ensures in
    over_more c.loop-s.invariant c.in-Some.ensures.steps (λ x v. record { member = λ t. put_more x (v.member t) (u.member t) })

pub returns : goal.returns
returns c = over_end c.loop-s.invariant c.in-None.ensures.steps.0 (λ same v. record { member = λ t. put_all same (v.member t) })
