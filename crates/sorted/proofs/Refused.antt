-- The tests of a collection that no area is lent with are those of one with two areas of the right length.
use Rattle.std.specs.Prelude.{◌≡◌, ◌↔◌, Result, Err, IsOk}
use Rattle.laws.specs.Iff.{iff_then}
use Rattle.kinds.specs.declared.Counts.{Counts}
use Rattle.kinds.specs.Kinds.{CountsFit}
use Rattle.meaning.specs.Layout.{area_length}
use Rattle.meaning.specs.Lent.{Tables, TablesFit, ShapesOk, NumbersFit}
use Rattle.std.proofs.Common.{refl}
use Rattle.tables.specs.declared.collection.Refusal.{Refusal}
use Rattle.tables.specs.declared.collection.Refusal.TheVariants.{BadCount, BadTable, BadNumber}
use Rattle.tables.specs.Order.{AllPass, SecondFails, ThirdFails}
use Rattle.sorted.specs.Same.{Passes, IsRefusedFor}

-- a second test that says the same may stand in its place
module _ {A B B' : Type 0} (f : B ↔ B') where
  all-pass : {C : Type 0} → AllPass A B C ↔ AllPass A B' C
  all-pass = (
    λ h. record { counts = h.counts; tables = f.0 h.tables; numbers = h.numbers },
    λ h. record { counts = h.counts; tables = f.1 h.tables; numbers = h.numbers },
  )

  second-fails : SecondFails A B ↔ SecondFails A B'
  second-fails = (
    λ h. record { counts = h.counts; tables = λ b. h.tables (f.1 b) },
    λ h. record { counts = h.counts; tables = λ b. h.tables (f.0 b) },
  )

  third-fails : {C : Type 0} → ThirdFails A B C ↔ ThirdFails A B' C
  third-fails = (
    λ h. record { counts = h.counts; tables = f.0 h.tables; numbers = h.numbers },
    λ h. record { counts = h.counts; tables = f.1 h.tables; numbers = h.numbers },
  )

module _ (c : Counts) (t : Tables) (r : Result (Unit {0}) Refusal) where
  fit : TablesFit t area_length area_length ↔ ShapesOk t
  fit = (λ h. h.tables, λ s. record { tables = s; area = refl; spare = refl })

  pub passes-alone : IsOk r ↔ AllPass (CountsFit c) (TablesFit t area_length area_length) (NumbersFit c t) → IsOk r ↔ Passes c t
  passes-alone ok = iff_then ok (all-pass fit)

  pub refused-alone : (r ≡ Err BadCount) ↔ (¬ CountsFit c)
      → (r ≡ Err BadTable) ↔ SecondFails (CountsFit c) (TablesFit t area_length area_length)
      → (r ≡ Err BadNumber) ↔ ThirdFails (CountsFit c) (TablesFit t area_length area_length) (NumbersFit c t)
      → (why : Refusal) → (r ≡ Err why) ↔ IsRefusedFor c t why
  refused-alone a b d BadCount = a
  refused-alone a b d BadTable = iff_then b (second-fails fit)
  refused-alone a b d BadNumber = iff_then d (third-fails fit)
