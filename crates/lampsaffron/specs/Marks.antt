-- What the call that tells how many marks each round made gives (docs/RULES.md, sections 6 and 7).
use Rattle.std.specs.Prelude.{◌≡◌, ◌⊎◌, List, ℕ, zero, suc, ◌≤◌, length, min, [], ◌∷◌}
use Rattle.kinds.specs.Kinds.{CountsFit}
use Rattle.laws.specs.First.{FirstOf, ◌else◌}
use Rattle.meaning.specs.Lent.{TablesFit, NumbersFit}
use Rattle.meaning.specs.Layout.{zeros}
use Rattle.meaning.specs.Model.{Contradiction}
use Rattle.index.specs.Preparation.{Preparation, collection_in, RoundsNeeded, HoldsSheet}
use Rattle.index.specs.Marks.{CountsTold}
use Rattle.lampsaffron.specs.Front.{IsFront}

-- the number given: of the first of these that fails; a row that has no place for each round that
-- is allowed is 5
abbrev pub MarksNumber : Preparation → ℕ → ℕ → Type 0
MarksNumber p room =
    FirstOf (CountsFit p.counts else 4
    ∷ (p.allowance ≤ room) else 5
    ∷ TablesFit p.tables p.area p.spare else 5
    ∷ NumbersFit p.counts p.tables else 6
    ∷ (Contradiction (collection_in p) → ⊥) else 2
    ∷ ((n : ℕ) × RoundsNeeded p n × (n ≤ p.allowance)) else 3 ∷ [])
    (λ number. number ≡ 0)

-- after 0 and 3 rounds were worked
abbrev pub WorksRounds : ℕ → Type 0
WorksRounds number = (number ≡ 0) ⊎ (number ≡ 3)

-- what is told of a preparation stands so at the front of a row
abbrev pub TellsFront : Preparation → ℕ → List ℕ → List ℕ → Type 0
TellsFront p rounds old new =
    (counts : List ℕ) × CountsTold p counts × IsFront counts rounds old new

-- what is put of a round: of round 0 nothing, and of each further round how many marks it added
abbrev pub count_put : ℕ → ℕ → List ℕ
count_put zero many = []
count_put (suc round) many = many ∷ []

-- what is left of what was lent: both areas, the row of counts, and how many it has
pub record Lent : Type 0 where
  pub area : List ℕ
  pub spare : List ℕ
  pub marks : List ℕ
  pub rounds : ℕ

abbrev pub left : List ℕ → List ℕ → List ℕ → ℕ → Lent
left area spare marks rounds =
    record { area = area; spare = spare; marks = marks; rounds = rounds }

-- all that the call gives and leaves
pub record TellsMarks (p : Preparation) (old : Lent) (number : ℕ) (new : Lent) : Type 0 where
  pub number_is : MarksNumber p (length old.marks) number
  pub sheet : WorksRounds number → (n : ℕ) → RoundsNeeded p n
      → HoldsSheet p (min n p.allowance) new.area
  pub cleared : WorksRounds number → new.spare ≡ zeros
  pub told : WorksRounds number → TellsFront p new.rounds old.marks new.marks
  pub kept : (WorksRounds number → ⊥) → new ≡ old
