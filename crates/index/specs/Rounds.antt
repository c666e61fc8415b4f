-- Whether a preparation has rounds needed that are allowed, and why not (docs/RULES.md, section 7).
use Rattle.std.specs.Prelude.{◌≡◌, ℕ, ◌≤◌, ◌<◌, [], ◌∷◌}
use Rattle.kinds.specs.declared.Answer.{Answer}
use Rattle.kinds.specs.declared.Answer.TheVariants as answer
use Rattle.kinds.specs.Kinds.{CountsFit}
use Rattle.laws.specs.First.{FirstOf, ◌else◌}
use Rattle.meaning.specs.Lent.{TablesFit, NumbersFit}
use Rattle.meaning.specs.Model.{Contradiction}
use Rattle.index.specs.Preparation.{Preparation, collection_in, HasSheet, RoundsNeeded}

-- n rounds are needed, and allowed
pub record HasRounds (p : Preparation) (n : ℕ) : Type 0 where
  pub sheet : HasSheet p
  pub needed : RoundsNeeded p n
  pub allowed : n ≤ p.allowance

-- the answer of the first of these that fails: the tests, that no exclusion is broken, and that the
-- rounds needed are allowed
abbrev pub NoRounds : Preparation → Answer → Type 0
NoRounds p =
    FirstOf (CountsFit p.counts else answer.BadCount
    ∷ TablesFit p.tables p.area p.spare else answer.BadTable
    ∷ NumbersFit p.counts p.tables else answer.BadNumber
    ∷ (Contradiction (collection_in p) → ⊥) else answer.Contradiction ∷ [])
    (λ r. (r ≡ answer.AllowanceSpent p.allowance)
    × ((n : ℕ) × RoundsNeeded p n × (p.allowance < n)))
