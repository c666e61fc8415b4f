-- One step more, and at the end all.
use Rattle.rules.proofs.StepLaws.{reading_more, reading_end}
use Rattle.rules.proofs.TransitionLaws.{steps_start, steps_more}
use Rattle.rules.proofs.transitions.put_steps.Goals as goal

pub loop-step-init : goal.loop-step-init
loop-step-init c = rw (c.into_iter-step-iterator.ensures.into_iter_gives, c.iter-step-items.ensures.first)
    (steps_start _ _ _ c.iter-step-items.ensures.numbers)

pub loop-step-preserved : goal.loop-step-preserved
loop-step-preserved c =
    let next = c.in-Some.ensures.steps in
    reading_more c.loop-step.invariant next.0 next.1 (λ e a. steps_more _ _ _ e a c.put_step.ensures)

pub returns : goal.returns
returns c = reading_end c.loop-step.invariant c.in-None.ensures.steps.0.0
