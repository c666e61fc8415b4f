-- The steps before the next one.
use Rattle.rules.specs.Rows.{Gets}
use Rattle.rules.specs.Made.{Passes}
use Rattle.rules.proofs.StepLaws.{Reading}
use Rattle.rules.proofs.made.put_tests.Given as goal

abbrev pub invariant-loop-step : goal.invariant-loop-step
invariant-loop-step l = Reading
    (λ Is. Gets (Passes Is l.below) l.fn.tests l.tests) l.fn.steps.numbers l.step-iterator.table.numbers l.step-iterator.next
