-- What a library call is lent: five counts, eight tables of 16-bit numbers, an ask, an allowance
-- and two areas (docs/RULES.md, section 3); and its tests 4, 5, 6 and 8 (section 7).
use Rattle.std.specs.Prelude.{◌≡◌, List, ℕ, zero, suc, ◌+◌, ◌*◌, ◌/◌, ◌%◌, ◌≤◌, length, slice_index}
use Rattle.kinds.specs.declared.ConceptName.{ConceptName}
use Rattle.kinds.specs.declared.RoleName.{RoleName}
use Rattle.kinds.specs.declared.Individual.{Individual}
use Rattle.kinds.specs.declared.State.{State}
use Rattle.kinds.specs.declared.SignedRole.{SignedRole}
use Rattle.kinds.specs.declared.Concept.{Concept}
use Rattle.kinds.specs.declared.Counts.{Counts}
use Rattle.kinds.specs.declared.Ask.{Ask}
use Rattle.kinds.specs.Kinds.{concept_name, role_name, individual, state, signed, concept_of, CountsFit}
use Rattle.kinds.specs.Asks.{AskDeclared}
use Rattle.laws.specs.Numbers.{numbered}
use Rattle.meaning.specs.Collection.{Collection, Letter, role, test, Step, step, NumbersDeclared, Each}
use Rattle.meaning.specs.Layout.{area_length}

-- the tables as they are lent, record after record
pub record Tables : Type 0 where
  pub concept-rules : List ℕ
  pub concept-exclusions : List ℕ
  pub role-rules : List ℕ
  pub role-exclusions : List ℕ
  pub concept-facts : List ℕ
  pub role-facts : List ℕ
  pub steps : List ℕ
  pub finals : List ℕ

-- the numbers in a record of each table; the last one of a fact's is its deed number
abbrev pub rule_width : ℕ
rule_width = 2

abbrev pub concept_fact_width : ℕ
concept_fact_width = 3

abbrev pub role_fact_width : ℕ
role_fact_width = 4

abbrev pub step_width : ℕ
step_width = 4

abbrev pub final_width : ℕ
final_width = 1

-- and the most records of each table
abbrev pub most_concept_rules : ℕ
most_concept_rules = 512

abbrev pub most_concept_exclusions : ℕ
most_concept_exclusions = 512

abbrev pub most_role_rules : ℕ
most_role_rules = 128

abbrev pub most_role_exclusions : ℕ
most_role_exclusions = 128

abbrev pub most_concept_facts : ℕ
most_concept_facts = 1024

abbrev pub most_role_facts : ℕ
most_role_facts = 4096

abbrev pub most_steps : ℕ
most_steps = 1024

abbrev pub most_finals : ℕ
most_finals = 32

-- number j of record k, in a table with so many numbers to a record
abbrev pub field : ℕ → List ℕ → ℕ → ℕ → ℕ
field width t j k = slice_index t (width * k + j)

-- the whole records of a table, in order, each read as its kind
unfoldable pub records : {A : Type 0} → ℕ → (List ℕ → ℕ → A) → List ℕ → List A
records width read t = numbered (read t) (length t / width)

-- record k of each table (docs/RULES.md, section 3)
abbrev pub concept_pair : List ℕ → ℕ → Concept × Concept
concept_pair t k = (concept_of (field rule_width t 0 k), concept_of (field rule_width t 1 k))

abbrev pub role_pair : List ℕ → ℕ → SignedRole × SignedRole
role_pair t k = (signed (field rule_width t 0 k), signed (field rule_width t 1 k))

-- what a fact means does not depend on its deed number
abbrev pub concept_fact : List ℕ → ℕ → ConceptName × Individual
concept_fact t k = (
  concept_name (field concept_fact_width t 0 k),
  individual (field concept_fact_width t 1 k),
)

abbrev pub role_fact : List ℕ → ℕ → RoleName × Individual × Individual
role_fact t k = (
  role_name (field role_fact_width t 0 k),
  individual (field role_fact_width t 1 k),
  individual (field role_fact_width t 2 k),
)

-- the kind of a step is 0 for a role, 1 for a test
abbrev pub letter_of : ℕ → ℕ → Letter
letter_of zero x = role (signed x)
letter_of (suc kind) x = test (concept_name x)

abbrev pub step_at : List ℕ → ℕ → Step
step_at t k =
    step (state (field step_width t 1 k))
    (letter_of (field step_width t 0 k) (field step_width t 2 k))
    (state (field step_width t 3 k))

abbrev pub final_at : List ℕ → ℕ → State
final_at t k = state (field final_width t 0 k)

-- the collection that is lent
abbrev pub collection : Counts → Tables → Collection
collection c t = record {
  counts = c;
  concept-rules = records rule_width concept_pair t.concept-rules;
  concept-exclusions = records rule_width concept_pair t.concept-exclusions;
  role-rules = records rule_width role_pair t.role-rules;
  role-exclusions = records rule_width role_pair t.role-exclusions;
  concept-facts = records concept_fact_width concept_fact t.concept-facts;
  role-facts = records role_fact_width role_fact t.role-facts;
  steps = records step_width step_at t.steps;
  finals = records final_width final_at t.finals;
}

-- all that a call is lent
pub record Call : Type 0 where
  pub counts : Counts
  pub tables : Tables
  pub ask : Ask
  pub allowance : ℕ
  pub area : List ℕ
  pub spare : List ℕ

abbrev pub collection_of : Call → Collection
collection_of c = collection c.counts c.tables

-- test 4: each count in its range, and the start state below the count of states
abbrev pub CountsOk : Call → Type 0
CountsOk c = CountsFit c.counts

-- test 5: whole records of so many numbers, not too many of them, and areas of the right length
pub record Whole (width most : ℕ) (t : List ℕ) : Type 0 where
  pub unbroken : length t % width ≡ 0
  pub few : length t / width ≤ most

pub record ShapesOk (t : Tables) : Type 0 where
  pub concept-rules : Whole rule_width most_concept_rules t.concept-rules
  pub concept-exclusions : Whole rule_width most_concept_exclusions t.concept-exclusions
  pub role-rules : Whole rule_width most_role_rules t.role-rules
  pub role-exclusions : Whole rule_width most_role_exclusions t.role-exclusions
  pub concept-facts : Whole concept_fact_width most_concept_facts t.concept-facts
  pub role-facts : Whole role_fact_width most_role_facts t.role-facts
  pub steps : Whole step_width most_steps t.steps
  pub finals : Whole final_width most_finals t.finals

pub record TablesFit (t : Tables) (long long' : ℕ) : Type 0 where
  pub tables : ShapesOk t
  pub area : long ≡ area_length
  pub spare : long' ≡ area_length

abbrev pub TablesOk : Call → Type 0
TablesOk c = TablesFit c.tables (length c.area) (length c.spare)

-- the kind of step k
abbrev pub step_kind : List ℕ → ℕ → ℕ
step_kind t k = field step_width t 0 k

-- test 6: every number in a record is declared, and no step kind is above 1
pub record NumbersFit (c : Counts) (t : Tables) : Type 0 where
  pub declared : NumbersDeclared (collection c t)
  pub step-kinds : Each (records step_width step_kind t.steps) (λ kind. kind ≤ 1)

abbrev pub NumbersOk : Call → Type 0
NumbersOk c = NumbersFit c.counts c.tables

-- test 8: each asked individual is declared, both of a pair
abbrev pub AskOk : Call → Type 0
AskOk c = AskDeclared c.counts c.ask

-- a call that none of them refuses
pub record Sound (c : Call) : Type 0 where
  pub counts : CountsOk c
  pub tables : TablesOk c
  pub numbers : NumbersOk c
  pub ask : AskOk c
