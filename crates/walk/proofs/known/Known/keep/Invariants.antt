-- `keep`: the members below f have the place.
use Rattle.walk.proofs.KnownLaws.{IsKept}
use Rattle.walk.proofs.known.Known.keep.Given as goal

abbrev pub invariant-loop-f : goal.invariant-loop-f
invariant-loop-f l = IsKept l.component l.k l.fn.self l.self
