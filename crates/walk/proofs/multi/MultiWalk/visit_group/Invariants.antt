-- `visit_group`: the first i individuals of the group were visited.
use Rattle.std.proofs.Common.{◌+◌}
use Rattle.walk.specs.MultiWalks.{Swept}
use Rattle.walk.proofs.multi.MultiWalk.visit_group.Given as goal

abbrev pub invariant-loop-i : goal.invariant-loop-i
invariant-loop-i l = Swept l.strides l.among.0 l.at (l.at + l.i) l.fn.self l.self l.led
