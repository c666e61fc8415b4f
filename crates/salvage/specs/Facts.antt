-- The facts of a collection, of both kinds in the order typed, and their salvage (docs/RULES.md,
-- section 13).
use Rattle.std.specs.Prelude.{◌≡◌, Bool, true, false, Option, None, Some, List, [], ◌∷◌, length, count_by}
use Rattle.kinds.specs.declared.ConceptName.{ConceptName}
use Rattle.kinds.specs.declared.RoleName.{RoleName}
use Rattle.kinds.specs.declared.Individual.{Individual}
use Rattle.kinds.specs.declared.Counts.{Counts}
use Rattle.meaning.specs.Collection.{Collection, ConceptFactDeclared, RoleFactDeclared}
use Rattle.meaning.specs.Model.{Contradiction}
use Rattle.salvage.specs.declared.Typed.{Typed}
use Rattle.salvage.specs.declared.Typed.TheVariants.{ConceptFact, RoleFact, Other}
use Rattle.salvage.specs.Salvages.{marked, Salvages}

-- a fact: a name of an individual, or a role of an ordered pair
pub data Fact : Type 0 where
  of : ConceptName → Individual → Fact
  between : RoleName → Individual → Individual → Fact

-- those of each kind
unfoldable pub concept_facts_in : List Fact → List (ConceptName × Individual)
concept_facts_in [] = []
concept_facts_in (of A a ∷ l) = (A, a) ∷ concept_facts_in l
concept_facts_in (between r a b ∷ l) = concept_facts_in l

unfoldable pub role_facts_in : List Fact → List (RoleName × Individual × Individual)
role_facts_in [] = []
role_facts_in (of A a ∷ l) = role_facts_in l
role_facts_in (between r a b ∷ l) = (r, a, b) ∷ role_facts_in l

-- an entry is a fact, or none, where something else is typed; the facts among entries
abbrev pub facts_among : List (Option Fact) → List Fact
facts_among [] = []
facts_among (None ∷ l) = facts_among l
facts_among (Some x ∷ l) = x ∷ facts_among l

-- their numbers are declared
abbrev pub FactDeclared : Counts → Fact → Type 0
FactDeclared c (of A a) = ConceptFactDeclared c (A, a)
FactDeclared c (between r a b) = RoleFactDeclared c (r, a, b)

abbrev pub EntryDeclared : Counts → Option Fact → Type 0
EntryDeclared c None = Unit {0}
EntryDeclared c (Some x) = FactDeclared c x

-- the collection with these facts in place of its own
abbrev pub with_facts : Collection → List Fact → Collection
with_facts 𝓒 l = record {
  counts = 𝓒.counts;
  concept-rules = 𝓒.concept-rules;
  concept-exclusions = 𝓒.concept-exclusions;
  role-rules = 𝓒.role-rules;
  role-exclusions = 𝓒.role-exclusions;
  concept-facts = concept_facts_in l;
  role-facts = role_facts_in l;
  steps = 𝓒.steps;
  finals = 𝓒.finals;
}

-- the facts among these entries, with all rules, make a contradiction
abbrev pub Clashing : Collection → List (Option Fact) → Type 0
Clashing 𝓒 l = Contradiction (with_facts 𝓒 (facts_among l))

-- the marks say of each entry, in the order typed, whether it is kept
abbrev pub IsSalvage : Collection → List (Option Fact) → List Bool → Type 0
IsSalvage 𝓒 l marks = Salvages (Clashing 𝓒) [] l marks

-- what is answered over: the collection with the kept facts alone
abbrev pub salvaged : Collection → List (Option Fact) → List Bool → Collection
salvaged 𝓒 l marks = with_facts 𝓒 (facts_among (marked true l marks))

-- the entries that an order makes of two tables of facts: each takes the next of its table, where
-- there is one
abbrev pub entries_by : List Typed → List (ConceptName × Individual)
    → List (RoleName × Individual × Individual) → List (Option Fact)
entries_by [] cs rs = []
entries_by (ConceptFact ∷ order) [] rs = None ∷ entries_by order [] rs
entries_by (ConceptFact ∷ order) (f ∷ cs) rs = Some (of f.0 f.1) ∷ entries_by order cs rs
entries_by (RoleFact ∷ order) cs [] = None ∷ entries_by order cs []
entries_by (RoleFact ∷ order) cs (f ∷ rs) = Some (between f.0 f.1 f.2) ∷ entries_by order cs rs
entries_by (Other ∷ order) cs rs = None ∷ entries_by order cs rs

-- the order names each table as often as it has facts
abbrev pub is_concept_fact : Typed → Bool
is_concept_fact ConceptFact = true
is_concept_fact RoleFact = false
is_concept_fact Other = false

abbrev pub is_role_fact : Typed → Bool
is_role_fact ConceptFact = false
is_role_fact RoleFact = true
is_role_fact Other = false

pub record NamesAll (order : List Typed) (cs : List (ConceptName × Individual))
    (rs : List (RoleName × Individual × Individual)) : Type 0 where
  pub concept-facts : count_by is_concept_fact order ≡ length cs
  pub role-facts : count_by is_role_fact order ≡ length rs

-- the entries of a collection by an order
abbrev pub entries_of : Collection → List Typed → List (Option Fact)
entries_of 𝓒 order = entries_by order 𝓒.concept-facts 𝓒.role-facts
