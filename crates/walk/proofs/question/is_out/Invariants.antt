-- `is_out`: no individual below a was reached in an accepts of it.
use Rattle.std.proofs.Common.{ℕ, ◌<◌}
use Rattle.sets.specs.Bits.{Meets}
use Rattle.sets.specs.Relations.{states_at}
use Rattle.walk.proofs.question.is_out.Given as goal

abbrev pub invariant-loop-a : goal.invariant-loop-a
invariant-loop-a l = (k : ℕ) → k < l.a → Meets (states_at l.reached k) (states_at l.accepting.rows k) → ⊥
