-- What a listener is told of the rounds of rows: the marks that first stand in each.
use Rattle.std.specs.Prelude.{◌≡◌, ◌≤◌, ℕ, suc, List, [], map, length, slice_index_or}
use Rattle.theory.specs.Listing.{Numbered, FirstMarks}
use Rattle.rules.specs.declared.rows.Rows.{Rows}
use Rattle.rules.specs.Rows.{kind_of}
use Rattle.sheet.specs.declared.round_marks.RoundMarks.{RoundMarks}
use Rattle.sheet.specs.Listed.{mark_of}

module _ (rows : Rows) where
  -- the kind of rows, in which each state and concept is its own number
  abbrev pub numbered : Numbered
  numbered = record { kind = kind_of rows; state_number = λ s. s; concept_number = λ B. B }

  -- the marks that first stand in round n are told
  pub record ToldIn (n : ℕ) (marks : RoundMarks) : Type 0 where
    pub numbers : List (ℕ × ℕ × ℕ)
    pub are : FirstMarks numbered n numbers
    pub told : marks ≡ map mark_of numbers

  -- and those of rounds 0 to n, each round's as a list of its own
  pub record ToldUpTo (n : ℕ) (rounds : List RoundMarks) : Type 0 where
    pub long : length rounds ≡ suc n
    pub each : (k : ℕ) → k ≤ n → ToldIn k (slice_index_or rounds k [])
