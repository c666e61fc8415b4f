-- No byte before this one has such a mark.
use Rattle.std.specs.Prelude.{ℕ, ◌≢◌, ◌<◌, slice_index}
use Rattle.sheet.specs.Former.{IsAbove}
use Rattle.sheet.proofs.former.marks_above.Given as goal

abbrev pub invariant-loop-i : goal.invariant-loop-i
invariant-loop-i l = (i : ℕ) → i < l.i → IsAbove i → slice_index l.area i ≢ 0 → ⊥
