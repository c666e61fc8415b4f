-- What comparing two collections gives (docs/RULES.md, section 10, "Two collections compared").
use Rattle.std.specs.Prelude.{◌≡◌, ℕ, [], ◌∷◌}
use Rattle.kinds.specs.declared.Counts.{Counts}
use Rattle.kinds.specs.Kinds.{CountsFit}
use Rattle.laws.specs.First.{FirstOf, ◌else◌}
use Rattle.meaning.specs.Lent.{Tables, ShapesOk, NumbersFit}
use Rattle.sorted.specs.Same.{SameCollections}

-- the number given: 4, 5 and 6 of the first collection, and then of the second; and else 0 where
-- they are not the same as sets, and 1 where they are
module _ (c : Counts) (t : Tables) (d : Counts) (u : Tables) where
  abbrev pub SameNumber : ℕ → Type 0
  SameNumber =
      FirstOf (CountsFit c else 4
      ∷ ShapesOk t else 5
      ∷ NumbersFit c t else 6
      ∷ CountsFit d else 4
      ∷ ShapesOk u else 5
      ∷ NumbersFit d u else 6
      ∷ SameCollections c t d u else 0 ∷ [])
      (λ number. number ≡ 1)
