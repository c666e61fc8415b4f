-- `is_behind`: what is behind of the first i individuals is in the set.
use Rattle.std.proofs.Common.{ℕ, ◌+◌, ◌<◌, ◌≤◌}
use Rattle.sets.specs.Bits.{Has}
use Rattle.sets.specs.Relations.{states_at}
use Rattle.walk.proofs.multi.MultiWalk.is_behind.Given as goal

abbrev pub invariant-loop-i : goal.invariant-loop-i
invariant-loop-i l = (y u : ℕ) → l.at ≤ y → y < l.at + l.i → Has (states_at l.self.behind y) u → Has l.any.0 u
