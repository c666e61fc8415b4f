-- Laws of rows of sets: the test of a member, and what is added to a relation one after another.
use Rattle.std.specs.Prelude.{ℕ, ◌+◌, ◌<◌, ◌≡◌, ◌⊎◌, ◌↔◌, IsTrue, Bool, true, false, replicate}
use Rattle.std.proofs.Common.{inl, inr, arith, rules}
use Rattle.std.proofs.Math.Decide.{ℕ_discrete}
use Rattle.std.proofs.lemmas.Nat.Bits.{bit_at-zero}
use Rattle.std.proofs.lemmas.List.{get_or-replicate}
use Rattle.laws.specs.Gains.{Either, OneOf}
use Rattle.laws.specs.Loops.{nothing_added, add_same, add_then}
use Rattle.laws.specs.Truth.{test-false, test-fails}
use Rattle.sets.specs.Bits.{has, Has}
use Rattle.sets.specs.Rows.{Adds, concept_marks, no_concepts}

-- the test of a fact on a bit
pub has_fact : (n k : ℕ) → IsTrue (has n k) ↔ Has n k
has_fact n k = (λ p. search (rules, p), λ p. search (rules, p))

pub marked : (n k : ℕ) (b : Bool) → IsTrue b ↔ Has n k → b ≡ true → has n k ≡ true
marked n k b s e = (has_fact n k).1 (s.0 e)

pub unmarked : (n k : ℕ) (b : Bool) → IsTrue b ↔ Has n k → b ≡ false → has n k ≡ false
unmarked n k b s e = test-fails (has_fact n k) (test-false s e)

module _ (h w : ℕ) (m : ℕ → ℕ → Bool) where
  -- k of some facts that are added one after another
  pub adds_none : (E : ℕ → ℕ → ℕ → Type 0) → Adds h w m (OneOf E 0) m
  adds_none E = record { at = λ i j hi hj. nothing_added (λ s. let l = s.1 in absurd (omega arith)) }

  pub adds_more : (E : ℕ → ℕ → ℕ → Type 0) (k : ℕ) (s r : ℕ → ℕ → Bool) → Adds h w m (OneOf E k) s → Adds h w s (E k) r → Adds h w m (OneOf E (k + 1)) r
  adds_more E k s r a b = record { at = λ i j hi hj. add_same (to i j) (from i j) (add_then (a.at i j hi hj) (b.at i j hi hj)) }
    where
      to : (i j : ℕ) → OneOf E k i j ⊎ E k i j → OneOf E (k + 1) i j
      to i j (inl (t, l, p)) = (t, omega arith, p)
      to i j (inr p) = (k, omega arith, p)

      from : (i j : ℕ) → OneOf E (k + 1) i j → OneOf E k i j ⊎ E k i j
      from i j (t, l, p) = elim (ℕ_discrete t k) [ yes e ↦ inr (rw e at p) | no ne ↦ inl (t, omega arith, p) ]

  -- the same pairs, said otherwise; first the pairs of E, then those of F
  pub adds_same : (E F : ℕ → ℕ → Type 0) (r : ℕ → ℕ → Bool) → Adds h w m E r → ((i j : ℕ) → i < h → j < w → E i j → F i j)
      → ((i j : ℕ) → i < h → j < w → F i j → E i j) → Adds h w m F r
  adds_same E F r a to from = record { at = λ i j hi hj. add_same (to i j hi hj) (from i j hi hj) (a.at i j hi hj) }

  pub adds_then : (E F : ℕ → ℕ → Type 0) (s r : ℕ → ℕ → Bool) → Adds h w m E s → Adds h w s F r → Adds h w m (Either E F) r
  adds_then E F s r a b = record { at = λ i j hi hj. add_then (a.at i j hi hj) (b.at i j hi hj) }

-- no number is in the empty set, nor related by rows of it
pub has_none : (k : ℕ) → has 0 k ≡ true → ⊥
has_none k p = let q = (has_fact 0 k).0 p in let z = bit_at-zero k in absurd (omega arith)

pub blank_marks : (n i j : ℕ) → i < n → concept_marks (replicate n no_concepts) i j ≡ true → ⊥
blank_marks n i j l p = let e = get_or-replicate n i no_concepts no_concepts l in has_none j (rw e at p)

pub ruleset adds = (adds_none, adds_more)
