-- The end of rounds against an allowance.
use Rattle.std.specs.Prelude.{◌≡◌, ◌↔◌, Bool, true, false, IsTrue, ℕ, ◌+◌, ◌<◌, ◌≤◌}
use Rattle.std.proofs.Common.{arith, rules}
use Rattle.std.proofs.Math.Decide.{dec_lt}
use Rattle.theory.specs.Sheet.{Unchanged}
use Rattle.rules.specs.declared.rows.Rows.{Rows}
use Rattle.rules.specs.Rows.{kind_of}
use Rattle.sheet.specs.declared.allowed.Ran.TheVariants.{Needed, Spent}
use Rattle.sheet.specs.Ends.{Ended, needed, spent}

pub stands : (b : Bool) (P : Type 0) → IsTrue b ↔ P → b ≡ true → P
stands b P o e = o.0 (rw e (search rules))

fails : (b : Bool) (P : Type 0) → IsTrue b ↔ P → b ≡ false → P → ⊥
fails b P o e p = let t = o.1 p in let f = rw e at t in absurd (search rules)

module _ (rows : Rows) (n : ℕ) where
  pub changed : ((m : ℕ) → m < n → Unchanged (kind_of rows) m → ⊥) → (b : Bool) → IsTrue b ↔ Unchanged (kind_of rows) n → b ≡ false
      → (m : ℕ) → m < n + 1 → Unchanged (kind_of rows) m → ⊥
  changed before b o e m l still = side (dec_lt m n)
    where
      side : Dec (m < n) → ⊥
      side (yes h) = before m h still
      side (no h) = let q : m ≡ n = omega arith in fails b (Unchanged (kind_of rows) n) o e (rw q at still)

  module _ (allowance : ℕ) where
    pub ends_needed : n ≤ allowance → ((m : ℕ) → m < n → Unchanged (kind_of rows) m → ⊥)
        → (b : Bool) → IsTrue b ↔ Unchanged (kind_of rows) n → b ≡ true → Ended rows allowance (Needed n)
    ends_needed l before b o e = needed (record { holds = stands b (Unchanged (kind_of rows) n) o e; none_before = before }) l

    pub ends_spent : ((m : ℕ) → m < n → Unchanged (kind_of rows) m → ⊥)
        → (b : Bool) → IsTrue b ↔ Unchanged (kind_of rows) n → b ≡ false → n ≡ allowance → Ended rows allowance Spent
    ends_spent before b o e q = spent (λ m l still. changed before b o e m (omega arith) still)
