-- `exhaust_all`: walks go on.
use Rattle.walk.specs.MultiWalks.{Kept}
use Rattle.walk.proofs.multi.MultiWalk.exhaust_all.Given as goal

abbrev pub invariant-loop-i : goal.invariant-loop-i
invariant-loop-i l = Kept l.asking.strides l.fn.self l.self
