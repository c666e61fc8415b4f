-- `sweep_along`: some nodes were led on, or none.
use Rattle.walk.specs.MultiWalks.{Goes}
use Rattle.walk.proofs.multi.MultiWalk.sweep_along.Given as goal

abbrev pub invariant-loop-turn : goal.invariant-loop-turn
invariant-loop-turn l = Goes l.strides l.fn.self l.self l.led
