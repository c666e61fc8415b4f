-- `leading_roles`: the signed roles below r are in where transitions lead by them.
use Rattle.std.specs.Prelude.{ℕ, ◌<◌}
use Rattle.sets.specs.Bits.{Has}
use Rattle.sets.specs.Relations.{relation_at, Relates}
use Rattle.walk.proofs.strides.leading_roles.Given as goal

abbrev pub invariant-loop-r : goal.invariant-loop-r
invariant-loop-r l = (R s t : ℕ) → R < l.r → Relates (relation_at l.transitions R) s t → Has l.out.0 R
