-- `are_rows`: the rows before the next one.
use Rattle.std.proofs.Common.{ℕ, ◌<◌}
use Rattle.kinds.specs.Kinds.{most_individuals}
use Rattle.sets.specs.Relations.{relation_at}
use Rattle.walk.specs.MultiWalks.{IsRow}
use Rattle.walk.proofs.multi.are_rows.Given as goal

abbrev pub invariant-loop-a : goal.invariant-loop-a
invariant-loop-a l = (y : ℕ) → y < l.a → IsRow (relation_at l.strides.loops.now.rows y)

abbrev pub invariant-loop-r : goal.invariant-loop-r
invariant-loop-r l = record {
  loops : (y : ℕ) → y < most_individuals → IsRow (relation_at l.strides.loops.now.rows y);
  transitions : (y : ℕ) → y < l.r → IsRow (relation_at l.strides.transitions.now y);
}
