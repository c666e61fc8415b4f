-- `pass`: the first i individuals of the group were visited.
use Rattle.std.proofs.Common.{◌+◌}
use Rattle.walk.specs.Passes.{Passes}
use Rattle.walk.proofs.walk.pass.Given as goal

abbrev pub invariant-loop-i : goal.invariant-loop-i
invariant-loop-i l = Passes l.guide l.at (l.at + l.i) l.fn.walk l.walk l.again
