-- `tell`: the answers so far are told.
use Rattle.std.specs.Prelude.{ℕ, ◌<◌, IfSome, slice_get}
use Rattle.lampsaffron.specs.Boundary.{Tells}
use Rattle.lampsaffron.proofs.tell.Given as goal

abbrev pub invariant-loop-k : goal.invariant-loop-k
invariant-loop-k l = (j : ℕ) → j < l.k → IfSome (slice_get l.answers j) (λ r. Tells l.numbers l.counts j r)
