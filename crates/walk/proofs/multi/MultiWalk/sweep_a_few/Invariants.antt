-- `sweep_a_few`: walks go on.
use Rattle.walk.specs.MultiWalks.{Kept}
use Rattle.walk.proofs.multi.MultiWalk.sweep_a_few.Given as goal

abbrev pub invariant-loop : goal.invariant-loop
invariant-loop l = Kept l.strides l.fn.self l.self
