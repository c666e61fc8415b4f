-- What an area holds of a sheet of rows: its marks, each at its place, and nothing else.
use Rattle.std.specs.Prelude.{◌≡◌, List, ℕ, ◌/◌, ◌%◌, ◌<◌}
use Rattle.meaning.specs.Layout.{place_count, Packs}
use Rattle.sets.specs.declared.concepts.ConceptSet.{ConceptSet}
use Rattle.rules.specs.Rows.{most_concepts, At}
use Rattle.sheet.specs.Sheets.{place}

-- p is the place of a concept of the rows
abbrev pub IsPlaceIn : List ConceptSet → ℕ → Type 0
IsPlaceIn sheet p = (p < place_count) × At sheet (p / most_concepts) (p % most_concepts)

-- 1 at the place of each concept of the rows, and 0 at every other
abbrev pub LaysRows : List ConceptSet → List ℕ → Type 0
LaysRows sheet = Packs (IsPlaceIn sheet)

-- p is the place of a mark of f
abbrev pub IsPlaceOf : (ℕ → ℕ → ℕ → Type 0) → ℕ → Type 0
IsPlaceOf f p = (s t B : ℕ) × f s t B × (place s t B ≡ p)

-- 1 at the place of each mark, and 0 at every other
abbrev pub LaysMarks : (ℕ → ℕ → ℕ → Type 0) → List ℕ → Type 0
LaysMarks f = Packs (IsPlaceOf f)
