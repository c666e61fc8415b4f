-- Facts that clash, worked on paper: collections, the order in which their facts are typed, and which
-- of them are kept (docs/RULES.md, section 13).
use Rattle.std.specs.Prelude.{Bool, true, false, List, [], ◌∷◌, ◌++◌, ℕ}
use Rattle.kinds.specs.declared.Counts.{Counts}
use Rattle.meaning.specs.Lent.{Tables, collection}
use Rattle.meaning.specs.Collection.{Collection}
use Rattle.salvage.specs.declared.Typed.{Typed}
use Rattle.salvage.specs.declared.Typed.TheVariants.{ConceptFact, RoleFact, Other}
use Rattle.salvage.specs.Facts.{IsSalvage, entries_of}
use Rattle.worked.specs.Cases.{declares, holding, base_rules, owner, base_steps, self_held, signed_to}

-- a row: a collection as it is lent, what its lines type, and for each a mark: true where it is kept
pub record SalvageCase : Type 0 where
  pub counts : Counts
  pub tables : Tables
  pub order : List Typed
  pub marks : List Bool

abbrev pub meant_by : SalvageCase → Collection
meant_by k = collection k.counts k.tables

-- the rules and the question of B, with these exclusions of concepts and of roles, and these facts
abbrev with_base : List ℕ → List ℕ → List ℕ → List ℕ → Tables
with_base ce re cf rf = holding base_rules ce [] re cf rf base_steps (3 ∷ [])

abbrev salvage_row : Tables → List Typed → List Bool → SalvageCase
salvage_row tables order marks = record {
  counts = declares 2 2 2 4 0;
  tables = tables;
  order = order;
  marks = marks;
}

-- Owner(0) and Deed(1), and signs(1, 0); Owner excludes Deed, and Deed excludes ∃signs
abbrev owner_and_deed : List ℕ
owner_and_deed = owner ++ 1 ∷ 1 ∷ 0 ∷ []

abbrev three_facts : Tables
three_facts = with_base (0 ∷ 1 ∷ 1 ∷ 64 ∷ []) [] owner_and_deed (0 ∷ 1 ∷ 0 ∷ 0 ∷ [])

unfoldable pub salvage_cases : List SalvageCase
salvage_cases =
    -- Owner(0), signs(1, 0), Deed(1): by the second, 0 would be a deed, so it is dropped. What is
    -- dropped counts no more, so 1, who has no ∃signs now, is a deed
    salvage_row three_facts
    (ConceptFact ∷ RoleFact ∷ ConceptFact ∷ [])
    (true ∷ false ∷ true ∷ [])
    -- the same with signs(1, 0) first: it is kept, and both others are dropped
    ∷ salvage_row three_facts
    (RoleFact ∷ ConceptFact ∷ ConceptFact ∷ [])
    (true ∷ false ∷ false ∷ [])
    -- case 4: Owner(0) clashes alone, on a deed that nobody typed. It is dropped each time it is
    -- typed; signs(0, 1) is dropped, since 1 would be such a deed; a line that types no fact stays
    ∷ salvage_row (with_base (1 ∷ 65 ∷ []) [] (owner ++ owner) signed_to)
    (ConceptFact ∷ Other ∷ RoleFact ∷ ConceptFact ∷ [])
    (false ∷ true ∷ false ∷ false ∷ [])
    -- case 15: holds(0, 0) is an edge back too, and is dropped; signs(0, 1) is kept
    ∷ salvage_row (with_base [] (2 ∷ 3 ∷ []) [] (self_held ++ signed_to))
    (RoleFact ∷ RoleFact ∷ [])
    (false ∷ true ∷ [])
    ∷ []

-- what a row says
abbrev pub Salvaged : SalvageCase → Type 0
Salvaged k = IsSalvage (meant_by k) (entries_of (meant_by k) k.order) k.marks
