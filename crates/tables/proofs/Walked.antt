-- A loop over the records of a table that stops at the first that fails a test.
use Rattle.std.specs.Prelude.{◌≡◌, ℕ, ◌<◌, List}
use Rattle.std.proofs.Common.{Bor}

-- the iterator goes through these numbers, and the records before the next one have P
pub record Walked {A : Type 0} (read : List ℕ → ℕ → A) (P : A → Type 0) (numbers table : Bor (List ℕ)) (next : ℕ) : Type 0 where
  pub same : table ≡ numbers
  pub each : (j : ℕ) → j < next → P (read numbers.now j)
