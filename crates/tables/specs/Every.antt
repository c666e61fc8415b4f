-- Facts about every whole record of a table, and about the records from one on.
use Rattle.std.specs.Prelude.{◌≡◌, ℕ, ◌+◌, ◌<◌, ◌≤◌, ◌/◌, List, Option, MatchOption, length}

abbrev pub EachRecord : {A : Type 0} → ℕ → (List ℕ → ℕ → A) → List ℕ → (A → Type 0) → Type 0
EachRecord width read t P = (k : ℕ) → k < length t / width → P (read t k)

module _ {A : Type 0} (width : ℕ) (read : List ℕ → ℕ → A) (t : List ℕ) where
  -- record k is the next one, and k + 1 comes after it
  pub record IsNext (k : ℕ) (one : A) (next : ℕ) : Type 0 where
    pub inside : k < length t / width
    pub is : one ≡ read t k
    pub after : next ≡ k + 1

  -- the record that comes next, or none is left
  abbrev pub GivesNext : ℕ → Option A → ℕ → Type 0
  GivesNext k r next =
      MatchOption r ((length t / width ≤ k) × (next ≡ k)) (λ one. IsNext k one next)
