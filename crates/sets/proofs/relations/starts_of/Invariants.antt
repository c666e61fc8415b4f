-- `starts_of`: the states below s from which the relation leads are in.
use Rattle.std.specs.Prelude.{ℕ, ◌<◌}
use Rattle.sets.specs.Bits.{Has}
use Rattle.sets.specs.Relations.{Relates}
use Rattle.sets.proofs.relations.starts_of.Given as goal

abbrev pub invariant-loop-s : goal.invariant-loop-s
invariant-loop-s l = (s t : ℕ) → s < l.s → Relates l.relation s t → Has l.out.0 s
