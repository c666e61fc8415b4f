-- One step more, and at the end all.
use Rattle.rules.proofs.StepLaws.{reading_more, reading_end}
use Rattle.rules.proofs.MadeLaws.{tests_start, tests_more}
use Rattle.rules.proofs.made.put_tests.Goals as goal

pub loop-step-init : goal.loop-step-init
loop-step-init c = rw (c.into_iter-step-iterator.ensures.into_iter_gives, c.iter-step-items.ensures.first)
    (tests_start _ _ _ _ c.iter-step-items.ensures.numbers)

pub loop-step-preserved : goal.loop-step-preserved
loop-step-preserved c =
    let next = c.in-Some.ensures.steps in
    reading_more c.loop-step.invariant next.0 next.1 (λ e a. tests_more _ _ _ _ e a c.put_test.ensures)

pub returns : goal.returns
returns c = reading_end c.loop-step.invariant c.in-None.ensures.steps.0.0
