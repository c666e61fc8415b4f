-- `sweep`: the first g groups were visited.
use Rattle.std.proofs.Common.{◌*◌}
use Rattle.walk.specs.MultiWalks.{group, Swept}
use Rattle.walk.proofs.multi.MultiWalk.sweep.Given as goal

abbrev pub invariant-loop-g : goal.invariant-loop-g
invariant-loop-g l = Swept l.strides l.among.0 0 (group * l.g) l.fn.self l.self l.led
