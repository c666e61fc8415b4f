-- `is_row`: the sets that were read have no member past the last state.
use Rattle.std.specs.Prelude.{ℕ, ◌<◌, ◌^◌}
use Rattle.kinds.specs.Kinds.{most_states}
use Rattle.sets.specs.Relations.{states_at}
use Rattle.walk.proofs.multi.is_row.Given as goal

abbrev pub invariant-loop-s : goal.invariant-loop-s
invariant-loop-s l = (t : ℕ) → t < l.s → states_at l.row t < 2 ^ most_states
