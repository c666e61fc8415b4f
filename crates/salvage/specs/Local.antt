-- A contradiction as it is found at one individual, or at one ordered pair of individuals: from
-- what is typed of them and what the rules exclude.
use Rattle.kinds.specs.declared.RoleName.{RoleName}
use Rattle.kinds.specs.declared.Individual.{Individual}
use Rattle.kinds.specs.declared.SignedRole.{SignedRole}
use Rattle.kinds.specs.declared.Concept.{Concept}
use Rattle.kinds.specs.Kinds.{forward, backward}
use Rattle.laws.specs.Member.{◌∈◌}
use Rattle.meaning.specs.Collection.{Collection}
use Rattle.meaning.specs.Model.{Typed}
use Rattle.salvage.specs.Excluded.{rules_of, Apart, Conflict, Barred}

module _ (𝓒 : Collection) where
  -- the signed roles typed of an ordered pair: r of the ends of a role fact on r, and r backward of
  -- the ends turned
  pub data TypedRole : Individual → SignedRole → Individual → Type 0 where
    onward : {r : RoleName} {a b : Individual} → (r, a, b) ∈ 𝓒.role-facts
        → TypedRole a (forward r) b
    back : {r : RoleName} {a b : Individual} → (r, a, b) ∈ 𝓒.role-facts
        → TypedRole b (backward r) a

  pub data Local : Type 0 where
    one : (a : Individual) (C : Concept) → Typed 𝓒 a C → Barred (rules_of 𝓒) C → Local
    two : (a : Individual) (C D : Concept) → Typed 𝓒 a C → Typed 𝓒 a D
        → Apart (rules_of 𝓒) C D → Local
    pair : (a b : Individual) (R S : SignedRole) → TypedRole a R b → TypedRole a S b
        → Conflict (rules_of 𝓒) R S → Local
