-- `live_to`: of the states that are taken those are in where the way leads on.
use Rattle.std.proofs.Common.{◌+◌}
use Rattle.kinds.specs.Kinds.{base}
use Rattle.sets.specs.Bits.{IsSetOf}
use Rattle.walk.specs.CoReachable.{IsLive}
use Rattle.sets.proofs.Gathering.{Over}
use Rattle.walk.proofs.coreachable.live_to.Given as goal

abbrev pub invariant-loop-t : goal.invariant-loop-t
invariant-loop-t l = Over l.fn.alive.0 l.t-iterator.rest.0
    (λ D. IsSetOf (λ t. D t × IsLive l.paths.finals.0 l.now (base + l.back.0) t) l.out.0)
