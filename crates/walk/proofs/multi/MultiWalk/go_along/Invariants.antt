-- `go_along`: walks go on, and each sweep that is not the last leaves less to do.
use Rattle.walk.specs.MultiWalks.{Kept, left}
use Rattle.walk.proofs.multi.MultiWalk.go_along.Given as goal

abbrev pub invariant-loop-among : goal.invariant-loop-among
invariant-loop-among l = Kept l.strides l.fn.self l.self

abbrev pub decreases-loop-among : goal.decreases-loop-among
decreases-loop-among l = left l.self
