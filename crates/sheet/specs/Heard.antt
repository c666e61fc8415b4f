-- What a listener was told of rounds, and where it failed, by what holds of their marks.
use Rattle.std.specs.Prelude.{ℕ, List, ◌++◌}
use Rattle.rules.specs.declared.rows.Rows.{Rows}
use Rattle.sheet.specs.declared.round_marks.RoundMarks.{RoundMarks}
use Rattle.sheet.specs.Told.{Told, Failed}
use Rattle.sheet.specs.Ends.{Going}
use Rattle.sheet.specs.Telling.{ToldUpTo}

module _ {S : Type 0} (hears : S → ℕ → RoundMarks → S → Type 0) where
  -- it was told rounds of which P holds
  abbrev pub ToldOf : (List RoundMarks → Type 0) → S → S → Type 0
  ToldOf P from to = (rounds : List RoundMarks) × P rounds × Told hears from rounds to

module _ {S E : Type 0} (hears : S → ℕ → RoundMarks → S → Type 0)
    (fails : S → ℕ → RoundMarks → E → S → Type 0) where
  -- it was told rounds of which P holds, and failed at the last
  abbrev pub FailedOf : (List RoundMarks → Type 0) → S → E → S → Type 0
  FailedOf P from e to = (rounds : List RoundMarks) × P rounds × Failed hears fails from rounds e to

  -- the same, where P holds of them with more rounds behind
  abbrev pub FailedAmong : (List RoundMarks → Type 0) → S → E → S → Type 0
  FailedAmong P from e to =
      (rounds rest : List RoundMarks) × P (rounds ++ rest) × Failed hears fails from rounds e to

  -- it failed at the last of so many rounds after round 0, which were all allowed and changed the
  -- sheet
  abbrev pub FailedGoing : Rows → ℕ → S → E → S → Type 0
  FailedGoing rows allowance from e to =
      (n : ℕ) × (rounds : List RoundMarks) × Going rows allowance n × ToldUpTo rows n rounds
      × Failed hears fails from rounds e to
