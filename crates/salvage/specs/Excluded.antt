-- What the rules alone exclude, whatever the facts: two concepts of one element, two signed roles
-- of one ordered pair, and a child that breaks something wherever it is promised.
use Rattle.std.specs.Prelude.{◌⊎◌, List}
use Rattle.kinds.specs.declared.SignedRole.{SignedRole}
use Rattle.kinds.specs.declared.Concept.{Concept}
use Rattle.kinds.specs.declared.Concept.TheVariants.{Exists}
use Rattle.kinds.specs.Kinds.{inverse}
use Rattle.laws.specs.Member.{◌∈◌}
use Rattle.meaning.specs.Collection.{Collection}
use Rattle.meaning.specs.Orders.{RoleFollows, ConceptFollows}

-- the rules and exclusions of a collection
pub record Rules : Type 0 where
  pub concept-rules : List (Concept × Concept)
  pub concept-exclusions : List (Concept × Concept)
  pub role-rules : List (SignedRole × SignedRole)
  pub role-exclusions : List (SignedRole × SignedRole)

abbrev pub rules_of : Collection → Rules
rules_of 𝓒 = record {
  concept-rules = 𝓒.concept-rules;
  concept-exclusions = 𝓒.concept-exclusions;
  role-rules = 𝓒.role-rules;
  role-exclusions = 𝓒.role-exclusions;
}

-- a pair is listed, in either order
abbrev pub IsListed : {A : Type 0} → List (A × A) → A → A → Type 0
IsListed {A} l x y = (◌∈◌ {A = A × A} (x, y) l) ⊎ (◌∈◌ {A = A × A} (y, x) l)

module _ (𝓡 : Rules) where
  -- C ≤ D and R ≤ S
  abbrev pub Under : Concept → Concept → Type 0
  Under = ConceptFollows 𝓡.concept-rules 𝓡.role-rules

  abbrev pub RoleUnder : SignedRole → SignedRole → Type 0
  RoleUnder = RoleFollows 𝓡.role-rules

  -- no element may have both C and D: an exclusion stands above them
  pub record Apart (C D : Concept) : Type 0 where
    pub over_first : Concept
    pub over_second : Concept
    pub excluded : IsListed 𝓡.concept-exclusions over_first over_second
    pub first : Under C over_first
    pub second : Under D over_second

  -- no ordered pair may have both R and S: an exclusion stands above them, or above their inverses
  pub record Conflict (R S : SignedRole) : Type 0 where
    pub over_first : SignedRole
    pub over_second : SignedRole
    pub excluded : IsListed 𝓡.role-exclusions over_first over_second
        ⊎ IsListed 𝓡.role-exclusions (inverse over_first) (inverse over_second)
    pub first : RoleUnder R over_first
    pub second : RoleUnder S over_second

  -- an unnamed element that ends in R breaks an exclusion: by its own concepts, by the edge to its
  -- parent, or further down
  pub data Doomed : SignedRole → Type 0 where
    breaks : {R : SignedRole} → Apart (Exists (inverse R)) (Exists (inverse R)) → Doomed R
    crosses : {R : SignedRole} → Conflict R R → Doomed R
    deeper : {R S : SignedRole} → Under (Exists (inverse R)) (Exists S) → Doomed S → Doomed R

  -- nobody may have C: it excludes itself, or promises a doomed child
  pub data Barred (C : Concept) : Type 0 where
    itself : Apart C C → Barred C
    sinks : (R : SignedRole) → Under C (Exists R) → Doomed R → Barred C
