-- Laws of marks: what is added to those that show a relation, and arrays of row arrays that are square.
use Rattle.std.specs.Prelude.{ℕ, ◌<◌, ◌≡◌, ◌⊎◌, ◌↔◌, IsTrue, Bool, true, false, List, [], length, get_or, set, replicate}
use Rattle.std.proofs.Common.{sym, ◌∙◌, inl, inr, ⊎_elim, refl, arith, length-set, get_or-set_same, get_or-set_other}
use Rattle.std.proofs.Math.Decide.{ℕ_discrete}
use mir.Val.{Val}
use denote.Array.{Array, each}
use denote.Plain.{Boolean}
use denote.Shadow.{shadow}
use Rattle.std.proofs.lemmas.Bool.{false≢true}
use Rattle.std.proofs.lemmas.List.{length-replicate, get_or-replicate}
use Rattle.laws.specs.Rows.{rows_long}
use Rattle.laws.specs.Marks.{mark}
use Rattle.laws.specs.Gains.{Either}
use Rattle.laws.specs.Truth.{test-same}
use Rattle.sets.specs.Rows.{Adds}
use Rattle.orders.specs.Marks.{Shows, Square, Pair}

module _ (n : ℕ) (m : ℕ → ℕ → Bool) where
  -- what is added to marks that show E
  pub adds_shows : (E F : ℕ → ℕ → Type 0) (r : ℕ → ℕ → Bool) → Shows n m E → Adds n n m F r → Shows n r (Either E F)
  adds_shows E F r s a =
      record {
        at = λ i j hi hj.
            test-same (a.at i j hi hj) (⊎_elim (λ p. inl ((s.at i j hi hj).0 p)) (λ p. inr p))
            (⊎_elim (λ p. inl ((s.at i j hi hj).1 p)) (λ p. inr p));
      }

-- no mark
abbrev pub blank : ℕ → List (List Bool)
blank n = replicate n (replicate n false)

pub blank_shows : (n : ℕ) (E : ℕ → ℕ → Type 0) (r : List (List Bool)) → Adds n n (mark (blank n)) E (mark r) → Shows n (mark r) E
blank_shows n E r a = record {
  at = λ i j hi hj. test-same (a.at i j hi hj)
      (⊎_elim (λ p. absurd (false≢true (sym (off i j hi hj) ∙ p))) (λ p. p)) (λ p. inr p);
}
  where
    off : (i j : ℕ) → i < n → j < n → mark (blank n) i j ≡ false
    off i j hi hj = rw (get_or-replicate n i (replicate n false) [] hi) (get_or-replicate n j false false hj)

-- an owned array of row arrays is square; a proof reads what it owns off `c.well_formed`
pub square : (n : ℕ) (m : List (List Bool)) (us : List Val) → length m ≡ n → shadow (each (List Bool) (Array Boolean n).own_val m us)
    → Square n m
square n m us l p = record { rows = l; cols = λ i h. rows_long Boolean n m us p i (omega arith) }

pub square_blank : (n : ℕ) → Square n (blank n)
square_blank n =
    record {
      rows = length-replicate n (replicate n false);
      cols = λ i h. rw (get_or-replicate n i (replicate n false) [] h)
          (length-replicate n false);
    }

-- a row of n stored
pub square_set : (n : ℕ) (m : List (List Bool)) (a : ℕ) (v : List Bool) → Square n m → a < n → length v ≡ n → Square n (set m a v)
square_set n m a v s ha l = record { rows = length-set m a v ∙ s.rows; cols = λ i h. by i h (ℕ_discrete i a) }
  where
    by : (i : ℕ) → i < n → Dec (i ≡ a) → length (get_or (set m a v) i []) ≡ n
    by i h (yes p) = rw (p, get_or-set_same m a v [] (omega (arith, s.rows))) l
    by i h (no p) = rw (get_or-set_other m a i v [] p) (s.cols i h)

-- one mark stored
module _ (n : ℕ) (m : List (List Bool)) (a b : ℕ) (s : Square n m) (ha : a < n) (hb : b < n) where
  abbrev row : List Bool
  row = set (get_or m a []) b true

  pub store_square : Square n (set m a (set (get_or m a []) b true))
  store_square = square_set n m a row s ha (length-set (get_or m a []) b true ∙ s.cols a ha)

  pub store_adds : Adds n n (mark m) (Pair a b) (mark (set m a (set (get_or m a []) b true)))
  store_adds = record { at = λ i j hi hj. by i j (ℕ_discrete i a) (ℕ_discrete j b) }
    where
      long : a < length m
      long = omega (arith, s.rows)

      wide : b < length (get_or m a [])
      wide = omega (arith, s.cols a ha)

      by : (i j : ℕ) → Dec (i ≡ a) → Dec (j ≡ b) → IsTrue (mark (set m a row) i j) ↔ (IsTrue (mark m i j) ⊎ Pair a b i j)
      by i j (yes e) (yes f) = rw (e, f, get_or-set_same m a row [] long, get_or-set_same (get_or m a []) b true false wide)
          (λ p. inr (refl, refl), λ p. refl)
      by i j (yes e) (no g) = rw (e, get_or-set_same m a row [] long, get_or-set_other (get_or m a []) b j true false g)
          (λ p. inl p, ⊎_elim (λ p. p) (λ p. absurd (g p.1)))
      by i j (no g) d = rw (get_or-set_other m a i row [] g) (λ p. inl p, ⊎_elim (λ p. p) (λ p. absurd (g p.0)))

pub ruleset marks = (store_square, store_adds)
