-- The marks of the lines that type one thing, and the records of a table that are marked.
use Rattle.std.specs.Prelude.{ℕ, Bool, true, false, if◌then◌else◌, List, [], ◌∷◌}
use Rattle.salvage.specs.Salvages.{marked}
use Rattle.salvage.specs.declared.Typed.{Typed}
use Rattle.salvage.specs.declared.Typed.TheVariants.{ConceptFact, RoleFact, Other}
use Rattle.sorted.specs.Rows.{rows, flat}

-- a line types what is asked for
abbrev pub is_typed : Typed → Typed → Bool
is_typed ConceptFact ConceptFact = true
is_typed RoleFact RoleFact = true
is_typed Other Other = true
is_typed asked typed = false

-- the marks of the lines that do
abbrev pub marks_of : (Typed → Bool) → List Typed → List Bool → List Bool
marks_of asked [] marks = []
marks_of asked (x ∷ typed) [] = []
marks_of asked (x ∷ typed) (mark ∷ marks) =
    if asked x then mark ∷ marks_of asked typed marks else marks_of asked typed marks

-- the records of a table that are kept, and those beyond the marks
abbrev pub kept_records : ℕ → List ℕ → List Bool → List ℕ
kept_records width numbers marks = flat (marked true (rows width numbers) marks)
