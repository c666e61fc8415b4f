-- The rows before this one.
use Rattle.std.specs.Prelude.{ℕ, ◌<◌}
use Rattle.sets.specs.Bits.{Has}
use Rattle.sets.specs.Relations.{Relates}
use Rattle.sheet.proofs.through.leads.Given as goal

abbrev pub invariant-loop-row : goal.invariant-loop-row
invariant-loop-row l = (s t : ℕ) → s < l.row-index → Relates l.relation s t → Has l.all.0 t
