-- The steps before the next one.
use Rattle.rules.specs.Transitions.{GainsEach, StepBy}
use Rattle.rules.proofs.StepLaws.{Reading}
use Rattle.rules.proofs.transitions.put_steps.Given as goal

abbrev pub invariant-loop-step : goal.invariant-loop-step
invariant-loop-step l = Reading
    (λ Is. GainsEach (StepBy Is) l.fn.own l.own) l.fn.steps.numbers l.step-iterator.table.numbers l.step-iterator.next
