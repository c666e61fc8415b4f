-- Where a row below s leads, the other relation does, or it is left over.
use Rattle.std.specs.Prelude.{ℕ, ◌<◌, ◌⊎◌}
use Rattle.sets.specs.Bits.{Has}
use Rattle.sets.specs.Relations.{Relates}
use Rattle.sheet.proofs.through.is_part.Given as goal

abbrev pub invariant-loop-s : goal.invariant-loop-s
invariant-loop-s l = (s t : ℕ) → s < l.s → Relates l.small s t → Relates l.great s t ⊎ Has l.over.0 t
