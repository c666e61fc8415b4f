-- What one fact types, and the test of one fact more against facts that make no contradiction: it
-- looks at what is typed of the one or two individuals that the fact names, and at nothing else.
use Rattle.std.specs.Prelude.{◌≡◌, List}
use Rattle.kinds.specs.declared.ConceptName.{ConceptName}
use Rattle.kinds.specs.declared.RoleName.{RoleName}
use Rattle.kinds.specs.declared.Individual.{Individual}
use Rattle.kinds.specs.declared.SignedRole.{SignedRole}
use Rattle.kinds.specs.declared.Concept.{Concept}
use Rattle.kinds.specs.declared.Concept.TheVariants.{Name, Exists}
use Rattle.kinds.specs.Kinds.{forward, backward}
use Rattle.meaning.specs.Collection.{Collection}
use Rattle.meaning.specs.Model.{Typed}
use Rattle.salvage.specs.Facts.{Fact, of, between, with_facts}
use Rattle.salvage.specs.Excluded.{rules_of, Apart, Conflict, Barred}
use Rattle.salvage.specs.Local.{TypedRole}

-- what a fact types of an individual, and of an ordered pair
pub data Gives : Fact → Individual → Concept → Type 0 where
  name : {A : ConceptName} {a : Individual} → Gives (of A a) a (Name A)
  start : {r : RoleName} {a b : Individual} → Gives (between r a b) a (Exists (forward r))
  end : {r : RoleName} {a b : Individual} → Gives (between r a b) b (Exists (backward r))

pub data GivesRole : Fact → Individual → SignedRole → Individual → Type 0 where
  ahead : {r : RoleName} {a b : Individual} → GivesRole (between r a b) a (forward r) b
  behind : {r : RoleName} {a b : Individual} → GivesRole (between r a b) b (backward r) a

module _ (𝓒 : Collection) (l : List Fact) where
  -- what the facts l type of an individual and of an ordered pair
  abbrev pub Held : Individual → Concept → Type 0
  Held = Typed (with_facts 𝓒 l)

  abbrev pub HeldRole : Individual → SignedRole → Individual → Type 0
  HeldRole = TypedRole (with_facts 𝓒 l)

  -- a concept fact looks at its individual
  pub data NameTest (A : ConceptName) (a : Individual) : Type 0 where
    barred : Barred (rules_of 𝓒) (Name A) → NameTest A a
    apart : (D : Concept) → Held a D → Apart (rules_of 𝓒) (Name A) D → NameTest A a

  -- a role fact looks at both of its ends, at what is typed of their ordered pair, and where they
  -- are equal at itself
  pub data RoleTest (r : RoleName) (a b : Individual) : Type 0 where
    barred_start : Barred (rules_of 𝓒) (Exists (forward r)) → RoleTest r a b
    barred_end : Barred (rules_of 𝓒) (Exists (backward r)) → RoleTest r a b
    at_start : (D : Concept) → Held a D → Apart (rules_of 𝓒) (Exists (forward r)) D
        → RoleTest r a b
    at_end : (D : Concept) → Held b D → Apart (rules_of 𝓒) (Exists (backward r)) D
        → RoleTest r a b
    at_both : a ≡ b → Apart (rules_of 𝓒) (Exists (forward r)) (Exists (backward r))
        → RoleTest r a b
    at_pair : (S : SignedRole) → HeldRole a S b → Conflict (rules_of 𝓒) (forward r) S
        → RoleTest r a b
    at_loop : a ≡ b → Conflict (rules_of 𝓒) (forward r) (backward r) → RoleTest r a b
