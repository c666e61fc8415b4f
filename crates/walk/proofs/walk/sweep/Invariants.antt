-- `sweep`: the first p groups were visited.
use Rattle.std.proofs.Common.{◌*◌}
use Rattle.walk.specs.Passes.{group, Passes}
use Rattle.walk.proofs.walk.sweep.Given as goal

abbrev pub invariant-loop-p : goal.invariant-loop-p
invariant-loop-p l = Passes l.guide 0 (group * l.p) l.fn.walk l.walk l.again
