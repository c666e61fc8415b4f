-- What follows from the rules: R ≤ S and C ≤ D, the smallest relations that docs/RULES.md names
-- (section 4). Exclusions derive nothing.
use Rattle.std.specs.Prelude.{List}
use Rattle.kinds.specs.declared.SignedRole.{SignedRole}
use Rattle.kinds.specs.declared.Concept.{Concept}
use Rattle.kinds.specs.declared.Concept.TheVariants.{Exists}
use Rattle.kinds.specs.Kinds.{inverse}
use Rattle.laws.specs.Member.{◌∈◌}
use Rattle.meaning.specs.Collection.{Collection}

-- R ≤ S by the role rules ρ: reflexive, transitive, holds every rule, and with R ≤ S also inverse
-- of R ≤ inverse of S
pub data RoleFollows (ρ : List (SignedRole × SignedRole)) : SignedRole → SignedRole → Type 0 where
  same : {R : SignedRole} → RoleFollows ρ R R
  then : {R S U : SignedRole} → RoleFollows ρ R S → RoleFollows ρ S U → RoleFollows ρ R U
  rule : {R S : SignedRole} → (R, S) ∈ ρ → RoleFollows ρ R S
  turned : {R S : SignedRole} → RoleFollows ρ R S → RoleFollows ρ (inverse R) (inverse S)

-- C ≤ D by the concept rules κ and the role rules ρ: reflexive, transitive, holds every rule, and
-- ∃R ≤ ∃S whenever R ≤ S
pub data ConceptFollows (κ : List (Concept × Concept)) (ρ : List (SignedRole × SignedRole))
    : Concept → Concept → Type 0 where
  same : {C : Concept} → ConceptFollows κ ρ C C
  then : {C D E : Concept} → ConceptFollows κ ρ C D → ConceptFollows κ ρ D E
      → ConceptFollows κ ρ C E
  rule : {C D : Concept} → (C, D) ∈ κ → ConceptFollows κ ρ C D
  wider : {R S : SignedRole} → RoleFollows ρ R S → ConceptFollows κ ρ (Exists R) (Exists S)

-- the two orders of a collection
abbrev pub RoleLe : Collection → SignedRole → SignedRole → Type 0
RoleLe 𝓒 = RoleFollows 𝓒.role-rules

abbrev pub ConceptLe : Collection → Concept → Concept → Type 0
ConceptLe 𝓒 = ConceptFollows 𝓒.concept-rules 𝓒.role-rules
