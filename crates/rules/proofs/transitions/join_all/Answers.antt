-- None, one role more, all.
use Rattle.sets.proofs.Gathering.{over_start, over_more, over_end}
use Rattle.rules.proofs.TransitionLaws.{gains_none, gains_more, gains_all}
use Rattle.rules.proofs.transitions.join_all.Goals as goal

pub loop-role-init : goal.loop-role-init
loop-role-init c =
    rw (c.into_iter-role-iterator.ensures.into_iter_gives, c.iter-role-items.ensures)
    (over_start (λ none. gains_none _ _ (λ s t w. none w.number w.of)))

pub loop-role-preserved : goal.loop-role-preserved
loop-role-preserved c = over_more c.loop-role.invariant c.in-Some.ensures.steps (λ x v. gains_more x v c.join.ensures)

pub returns : goal.returns
returns c = over_end c.loop-role.invariant c.in-None.ensures.steps.0 (λ same v. gains_all same v)
