-- `with_inverses`: the roles stay.
use Rattle.std.specs.Prelude.{ℕ}
use Rattle.sets.specs.Bits.{Has}
use Rattle.walk.proofs.strides.with_inverses.Given as goal

abbrev pub invariant-loop-role : goal.invariant-loop-role
invariant-loop-role l = (R : ℕ) → Has l.fn.roles.0 R → Has l.all.0 R
