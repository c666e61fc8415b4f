-- `visit`: some nodes were led on, and fewer are behind, or fewer marks are missing.
use Rattle.walk.specs.MultiWalks.{Swept, left}
use Rattle.walk.proofs.multi.MultiWalk.visit.Given as goal

abbrev pub invariant-loop-s : goal.invariant-loop-s
invariant-loop-s l = Swept l.strides l.among.0 l.a l.a l.fn.self l.self l.led

abbrev pub decreases-loop-s : goal.decreases-loop-s
decreases-loop-s l = left l.self
