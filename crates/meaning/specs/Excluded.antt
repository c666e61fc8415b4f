-- Concepts and roles that are excluded from themselves (docs/RULES.md, sections 4 and 5).
use Rattle.std.specs.Prelude.{◌≡◌, ◌⊎◌, List, ℕ, ◌≤◌}
use Rattle.kinds.specs.declared.SignedRole.{SignedRole}
use Rattle.kinds.specs.declared.Concept.{Concept}
use Rattle.kinds.specs.declared.Answer.{Answer}
use Rattle.kinds.specs.Answer.{answer_number}
use Rattle.laws.specs.Member.{◌∈◌, Within}
use Rattle.meaning.specs.Collection.{Collection, Each}
use Rattle.meaning.specs.Orders.{RoleLe, ConceptLe}
use Rattle.meaning.specs.Lent.{Call, collection_of}
use Rattle.meaning.specs.Outcome.{Outcome}

-- C ≤ D, and D is excluded from itself, as C itself may be
abbrev pub SelfExcluded : Collection → Concept → Type 0
SelfExcluded 𝓒 C = (D : Concept) × ConceptLe 𝓒 C D × ((D, D) ∈ 𝓒.concept-exclusions)

-- the same of roles
abbrev pub RoleSelfExcluded : Collection → SignedRole → Type 0
RoleSelfExcluded 𝓒 R = (S : SignedRole) × RoleLe 𝓒 R S × ((S, S) ∈ 𝓒.role-exclusions)

-- 𝓓 has more concept rules than 𝓒, whose left sides 𝓒 forbids: they may imply anything. All else is
-- the same
pub record ImpliesMore (𝓒 𝓓 : Collection) : Type 0 where
  pub counts : 𝓒.counts ≡ 𝓓.counts
  pub kept : Within 𝓒.concept-rules 𝓓.concept-rules
  pub added : Each 𝓓.concept-rules (λ r. (r ∈ 𝓒.concept-rules) ⊎ SelfExcluded 𝓒 r.0)
  pub concept-exclusions : 𝓒.concept-exclusions ≡ 𝓓.concept-exclusions
  pub role-rules : 𝓒.role-rules ≡ 𝓓.role-rules
  pub role-exclusions : 𝓒.role-exclusions ≡ 𝓓.role-exclusions
  pub concept-facts : 𝓒.concept-facts ≡ 𝓓.concept-facts
  pub role-facts : 𝓒.role-facts ≡ 𝓓.role-facts
  pub steps : 𝓒.steps ≡ 𝓓.steps
  pub finals : 𝓒.finals ≡ 𝓓.finals

-- two calls ask the same of two such collections
pub record AsksWhereMore (c d : Call) : Type 0 where
  pub more : ImpliesMore (collection_of c) (collection_of d)
  pub ask : c.ask ≡ d.ask

-- the call is answered no, yes or contradiction: no test refuses it, and its rounds suffice
abbrev pub IsDecided : Call → Answer → Type 0
IsDecided c r = (area spare : List ℕ) × Outcome c r area spare × (answer_number r ≤ 2)
