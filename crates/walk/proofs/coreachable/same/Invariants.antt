-- `same`: the sets of the states below s are equal.
use Rattle.std.proofs.Common.{ℕ, ◌≡◌, ◌<◌}
use Rattle.sets.specs.Relations.{concepts_at}
use Rattle.walk.proofs.coreachable.same.Given as goal

abbrev pub invariant-loop-s : goal.invariant-loop-s
invariant-loop-s l = (k : ℕ) → k < l.s → concepts_at l.now k ≡ concepts_at l.next k
