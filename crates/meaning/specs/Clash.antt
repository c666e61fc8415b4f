-- A finite test of contradiction: among individuals, the roles by which unnamed elements end, and
-- pairs joined by a fact.
use Rattle.kinds.specs.declared.Individual.{Individual}
use Rattle.kinds.specs.declared.SignedRole.{SignedRole}
use Rattle.kinds.specs.declared.Concept.{Concept}
use Rattle.kinds.specs.declared.Concept.TheVariants.{Exists}
use Rattle.kinds.specs.Kinds.{inverse}
use Rattle.laws.specs.Member.{◌∈◌}
use Rattle.meaning.specs.Collection.{Collection}
use Rattle.meaning.specs.Orders.{RoleLe, ConceptLe}
use Rattle.meaning.specs.Model.{IndividualHas, FactEdge}

module _ (𝓒 : Collection) where
  -- a signed role by which some unnamed element ends
  pub data Alive : SignedRole → Type 0 where
    sprouts : (a : Individual) (R : SignedRole) → IndividualHas 𝓒 a (Exists R) → Alive R
    grows : (R S : SignedRole) → Alive R → ConceptLe 𝓒 (Exists (inverse R)) (Exists S)
        → Alive S

  -- an exclusion is broken: of concepts, at an individual, or at unnamed elements that end in R; of
  -- roles, at a pair joined by a fact, or at an element and its child by Q, down or up
  pub data Clash : Type 0 where
    individual-clash : (a : Individual) (C D : Concept) → (C, D) ∈ 𝓒.concept-exclusions
        → IndividualHas 𝓒 a C → IndividualHas 𝓒 a D → Clash
    unnamed-clash : (R : SignedRole) (C D : Concept) → (C, D) ∈ 𝓒.concept-exclusions → Alive R
        → ConceptLe 𝓒 (Exists (inverse R)) C → ConceptLe 𝓒 (Exists (inverse R)) D
        → Clash
    fact-clash : (a b : Individual) (R S : SignedRole) → (R, S) ∈ 𝓒.role-exclusions
        → FactEdge 𝓒 a R b → FactEdge 𝓒 a S b → Clash
    down-clash : (Q R S : SignedRole) → (R, S) ∈ 𝓒.role-exclusions → Alive Q → RoleLe 𝓒 Q R
        → RoleLe 𝓒 Q S → Clash
    up-clash : (Q R S : SignedRole) → (inverse R, inverse S) ∈ 𝓒.role-exclusions → Alive Q
        → RoleLe 𝓒 Q R → RoleLe 𝓒 Q S → Clash
