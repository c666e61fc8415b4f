-- What the two tests say of a collection (docs/RULES.md, section 5).
use Rattle.std.specs.Prelude.{ℕ, Bool, List, ◌≡◌, ◌⊎◌, ◌↔◌}
use Rattle.kinds.specs.declared.Counts.{Counts}
use Rattle.meaning.specs.Lent.{Tables, collection}
use Rattle.meaning.specs.Model.{Contradiction}
use Rattle.sets.specs.Bits.{has, Has}
use Rattle.orders.specs.Rows.{IsRoleOrder, IsConceptOrder}
use Rattle.elements.specs.Concepts.{Concepts}
use Rattle.elements.specs.Generating.{AreGenerating}
use Rattle.clash.specs.Clashes.{ConceptsClash, RolesClash}
use Rattle.clash.specs.Conflicts.{IsConcerned}

-- what is looked at: the exclusions, which roles and which concepts follow from each, which
-- concepts the individuals have, which roles are generating, the role facts, and by which roles
-- their edges were made
pub record Computed : Type 0 where
  pub concept_exclusions : List ℕ
  pub role_exclusions : List ℕ
  pub roles : ℕ → ℕ → Bool
  pub concepts : ℕ → ℕ → Bool
  pub individuals : ℕ → ℕ → Bool
  pub generating : ℕ
  pub facts : List ℕ
  pub among : ℕ

-- one of the two tests says yes
abbrev pub Clashes : Computed → Type 0
Clashes x =
    ConceptsClash x.concept_exclusions x.individuals x.concepts x.generating
    ⊎ RolesClash x.role_exclusions x.roles x.generating x.facts x.among

-- the tables are those of a collection, the rest is what the contracts of the two orders and of the
-- elements say of them, and edges were made by each role that an exclusion concerns
pub record IsOf (t : Tables) (x : Computed) : Type 0 where
  pub concept_exclusions : x.concept_exclusions ≡ t.concept-exclusions
  pub role_exclusions : x.role_exclusions ≡ t.role-exclusions
  pub facts : x.facts ≡ t.role-facts
  pub roles : IsRoleOrder t.role-rules x.roles
  pub concepts : IsConceptOrder t.concept-rules t.role-rules x.concepts
  pub individuals : Concepts t.concept-facts t.role-facts x.concepts x.individuals
  pub generating : AreGenerating x.individuals x.concepts (has x.generating)
  pub among : (R : ℕ) → IsConcerned x.role_exclusions x.roles R → Has x.among R

-- one of the tests says yes exactly where the canonical model breaks an exclusion
abbrev pub ClashMeans : Counts → Tables → Type 0
ClashMeans c t =
    (x : Computed) → IsOf t x → Clashes x ↔ Contradiction (collection c t)
