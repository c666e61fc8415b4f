-- `members`: the individuals that are marked reach the nodes of the sets.
use Rattle.std.proofs.Common.{◌≡◌, length}
use Rattle.kinds.specs.Kinds.{most_individuals}
use Rattle.walk.specs.Telling.{AreMembers}
use Rattle.walk.proofs.components.members.Given as goal

abbrev pub invariant-loop-f : goal.invariant-loop-f
invariant-loop-f l = (length l.members ≡ most_individuals) × AreMembers l.strides l.start l.ahead l.members
