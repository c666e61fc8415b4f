-- The list of the base collection's closed sheet (docs/RULES.md, section 12), as it is worked on
-- paper (docs/PAPER.md, step 6).
use Rattle.std.specs.Prelude.{List, [], ◌∷◌, ◌++◌, map, ℕ}
use Rattle.kinds.specs.declared.State.{State}
use Rattle.kinds.specs.declared.Concept.{Concept}
use Rattle.kinds.specs.Kinds.{state, concept_of}
use Rattle.meaning.specs.Collection.{Collection}
use Rattle.meaning.specs.Lent.{Tables, collection}
use Rattle.worked.specs.Cases.{declares, holding, base_rules, owner, base_steps}

-- the base collection, which is that of case 1
abbrev pub base_tables : Tables
base_tables = holding base_rules [] [] [] owner [] base_steps (3 ∷ [])

abbrev pub base_collection : Collection
base_collection = collection (declares 2 2 2 4 0) base_tables

-- an entry by its numbers: the round, s, t and B
abbrev entry : ℕ → ℕ → ℕ → ℕ → ℕ × State × State × Concept
entry n s t B = (n, state s, state t, concept_of B)

-- the entries of round 0 that lead from one state to itself: one at each concept
abbrev itself : ℕ → List (ℕ × State × State × Concept)
itself s = map (entry 0 s s) (0 ∷ 1 ∷ 64 ∷ 65 ∷ 66 ∷ 67 ∷ [])

unfoldable pub base_list : List (ℕ × State × State × Concept)
base_list =
    itself 0 ++ itself 1 ++ itself 2 ++ itself 3
    -- the test from 1 to 2 passes at Deed, and at ∃(signs backward)
    ++ entry 1 1 2 1 ∷ entry 1 1 2 65
    -- down signs from 0 to 1, this mark, and up signs backward from 2 to 3: at Owner and at ∃signs
    ∷ entry 2 0 3 0 ∷ entry 2 0 3 64 ∷ []
