-- The number that is given of two collections compared.
use Rattle.std.specs.Prelude.{◌≡◌, refl, ℕ, [], ◌∷◌}
use Rattle.std.proofs.Common.{inl, inr, ◌∙◌, sym}
use Rattle.kinds.specs.declared.Counts.{Counts}
use Rattle.kinds.specs.Kinds.{CountsFit}
use Rattle.kinds.specs.Answer.{answer_number}
use Rattle.laws.specs.First.{FirstOf, ◌else◌, fails, holds, first-once}
use Rattle.meaning.specs.Lent.{Tables, ShapesOk, NumbersFit}
use Rattle.tables.specs.declared.collection.Refusal.{Refusal}
use Rattle.tables.specs.declared.collection.Refusal.TheVariants.{BadCount, BadTable, BadNumber}
use Rattle.tables.specs.Refusals.{answer_of}
use Rattle.sorted.specs.Same.{Passes, IsRefusedFor, RefusedFor, PassAsSame, PassAsOthers}
use Rattle.lampsaffron.specs.Same.{SameNumber}

-- the number of a refusal
abbrev pub refusal_number : Refusal → ℕ
refusal_number why = answer_number (answer_of why)

-- the three tests of one collection, and then some others
module _ (c : Counts) (t : Tables) (Rest : ℕ → Type 0) where
  abbrev Tested : ℕ → Type 0
  Tested = FirstOf (CountsFit c else 4 ∷ ShapesOk t else 5 ∷ NumbersFit c t else 6 ∷ []) Rest

  stops : (why : Refusal) → IsRefusedFor c t why → Tested (refusal_number why)
  stops BadCount h = fails h
  stops BadTable h = holds h.counts (fails h.tables)
  stops BadNumber h = holds h.counts (holds h.tables (fails h.numbers))

  goes_on : {n : ℕ} → Passes c t → Rest n → Tested n
  goes_on p r = holds p.counts (holds p.tables (holds p.numbers r))

module _ (c : Counts) (t : Tables) (d : Counts) (u : Tables) where
  pub refused-number : (why : Refusal) → RefusedFor c t d u why → SameNumber c t d u (refusal_number why)
  refused-number why h =
      elim h [
        | inl x ↦ stops c t _ why x
        | inr x ↦ goes_on c t _ x.0 (stops d u _ why x.1)
      ]

  pub same-number : PassAsSame c t d u → SameNumber c t d u 1
  same-number p = goes_on c t _ p.first (goes_on d u _ p.second (holds p.same refl))

  pub others-number : PassAsOthers c t d u → SameNumber c t d u 0
  others-number p = goes_on c t _ p.first (goes_on d u _ p.second (fails p.others))

  -- THEOREM: one number is given
  pub same-once : (n m : ℕ) → SameNumber c t d u n → SameNumber c t d u m → n ≡ m
  same-once = first-once (first-once (first-once (first-once (first-once (first-once (first-once (λ n m h k. h ∙ sym k)))))))
