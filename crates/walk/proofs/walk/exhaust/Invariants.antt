-- `exhaust`: sweeps keep what the walk knows of its sets, and leave less room to grow.
use Rattle.std.proofs.Common.{false}
use Rattle.walk.specs.Passes.{Passes}
use Rattle.walk.proofs.EndLaws.{room}
use Rattle.walk.proofs.walk.exhaust.Given as goal

abbrev pub invariant-loop : goal.invariant-loop
invariant-loop l = Passes l.guide 0 0 l.fn.walk l.walk false

abbrev pub decreases-loop : goal.decreases-loop
decreases-loop l = room l.walk.reached
