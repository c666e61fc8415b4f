-- What a listener was told of rounds: the marks of each, of rounds 0, 1 and so on.
use Rattle.std.specs.Prelude.{◌≡◌, ℕ, List, [], ◌∷◌, ◌++◌, length}
use Rattle.sheet.specs.declared.round_marks.RoundMarks.{RoundMarks}

-- from one on it was told these marks, list k as those of round k, and went to another
pub data Told {S : Type 0} (hears : S → ℕ → RoundMarks → S → Type 0) (from : S)
    : List RoundMarks → S → Type 0 where
  none : Told hears from [] from
  next : {rounds : List RoundMarks} {at to : S} {marks : RoundMarks} → Told hears from rounds at
      → hears at (length rounds) marks to → Told hears from (rounds ++ marks ∷ []) to

-- it was told the marks of all of these rounds but the last, and failed at the last
pub record Failed {S E : Type 0} (hears : S → ℕ → RoundMarks → S → Type 0)
    (fails : S → ℕ → RoundMarks → E → S → Type 0) (from : S) (rounds : List RoundMarks)
    (e : E) (to : S) : Type 0 where
  pub before : List RoundMarks
  pub last : RoundMarks
  pub all : rounds ≡ before ++ last ∷ []
  pub at : S
  pub told : Told hears from before at
  pub failed : fails at (length before) last e to
