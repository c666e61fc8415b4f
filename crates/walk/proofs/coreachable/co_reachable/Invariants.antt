-- `co_reachable`: all that is there leads on; at each turn more is there.
use Rattle.std.proofs.Common.{◌-◌, ◌*◌, ◌^◌}
use Rattle.kinds.specs.Kinds.{most_states}
use Rattle.sets.specs.Bits.{concept_width}
use Rattle.walk.proofs.CoReachableLaws.{Leading, total}
use Rattle.walk.proofs.coreachable.co_reachable.Given as goal

abbrev pub invariant-loop-roles : goal.invariant-loop-roles
invariant-loop-roles l = Leading l.paths l.now

abbrev pub decreases-loop-roles : goal.decreases-loop-roles
decreases-loop-roles l = most_states * 2 ^ concept_width - total l.now
