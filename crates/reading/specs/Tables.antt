-- What a list of frames says (docs/RULES.md, sections 3, 8, 12 and 13): what line 1 declares, the
-- allowance, the tables, each with the records of its kind, the list that ends it, and whether it
-- chooses salvage.
use Rattle.std.specs.Prelude.{ℕ, Bool, true, false, List, [], ◌∷◌, Option, None, Some, unwrap_or, is_some, count_by}
use Rattle.std.specs.List.{flat_map, filter_map}
use Rattle.kinds.specs.declared.Concept.{Concept}
use Rattle.kinds.specs.declared.Counts.{Counts}
use Rattle.kinds.specs.declared.State.{State}
use Rattle.kinds.specs.Kinds.{state, number_of}
use Rattle.meaning.specs.Demands.{most_rounds}
use Rattle.meaning.specs.Lent.{rule_width, concept_fact_width, role_fact_width, step_width, final_width, most_concept_rules, most_concept_exclusions, most_role_rules, most_role_exclusions, most_concept_facts, most_role_facts, most_steps, most_finals}
use Rattle.tables.specs.Asks.{ask_width}
use Rattle.frames.specs.declared.Frame.{Frame}
use Rattle.frames.specs.declared.Frame.TheVariants.{Declared, ConceptRule, ConceptExclusion, RoleRule, RoleExclusion, ConceptFact, RoleFact, RoleStep, TestStep, Final, Ask, AskFrom, Allowance, Expression, Salvage, ListedMark}
use Rattle.salvage.specs.declared.Typed.{Typed}
use Rattle.salvage.specs.declared.Typed.TheVariants as typed

-- the eight tables of a collection, with both kinds of step in one, the asks, and the list that
-- ends a file
pub data Kind : Type 0 where
  concept_rules concept_exclusions : Kind
  role_rules role_exclusions : Kind
  concept_facts role_facts : Kind
  steps finals asks listed : Kind

-- the record that a frame adds to a table, if it adds one
abbrev pub record_in : Kind → Frame → Option (List ℕ)
record_in concept_rules (ConceptRule C D) = Some (number_of C ∷ number_of D ∷ [])
record_in concept_exclusions (ConceptExclusion C D) = Some (number_of C ∷ number_of D ∷ [])
record_in role_rules (RoleRule R S) = Some (R.0 ∷ S.0 ∷ [])
record_in role_exclusions (RoleExclusion R S) = Some (R.0 ∷ S.0 ∷ [])
record_in concept_facts (ConceptFact A a n) = Some (A.0 ∷ a.0 ∷ n.0 ∷ [])
record_in role_facts (RoleFact r a b n) = Some (r.0 ∷ a.0 ∷ b.0 ∷ n.0 ∷ [])
record_in steps (RoleStep s R t) = Some (0 ∷ s.0 ∷ R.0 ∷ t.0 ∷ [])
record_in steps (TestStep s A t) = Some (1 ∷ s.0 ∷ A.0 ∷ t.0 ∷ [])
record_in finals (Final s) = Some (s.0 ∷ [])
record_in asks (Ask a b) = Some (0 ∷ a.0 ∷ b.0 ∷ [])
record_in asks (AskFrom a) = Some (1 ∷ a.0 ∷ 0 ∷ [])
record_in listed (ListedMark n s t B) = Some (n ∷ s.0 ∷ t.0 ∷ number_of B ∷ [])
record_in kind f = None

-- the numbers of an entry of a list: its round, s, t and B
abbrev pub listed_width : ℕ
listed_width = 4

-- the numbers in a record of each table
abbrev pub width : Kind → ℕ
width concept_rules = rule_width
width concept_exclusions = rule_width
width role_rules = rule_width
width role_exclusions = rule_width
width concept_facts = concept_fact_width
width role_facts = role_fact_width
width steps = step_width
width finals = final_width
width asks = ask_width
width listed = listed_width

-- the most asks of a file
abbrev pub most_asks : ℕ
most_asks = 256

-- the most entries of a list: states × states × concepts, with the most of each
abbrev pub most_listed : ℕ
most_listed = 131072

-- the most records of each table
abbrev pub most : Kind → ℕ
most concept_rules = most_concept_rules
most concept_exclusions = most_concept_exclusions
most role_rules = most_role_rules
most role_exclusions = most_role_exclusions
most concept_facts = most_concept_facts
most role_facts = most_role_facts
most steps = most_steps
most finals = most_finals
most asks = most_asks
most listed = most_listed

-- the most lines of a file: line 1, the allowance, the choice of salvage, and as many as the tables
-- have records
abbrev pub most_lines : ℕ
most_lines = 138787

-- and the most of them before the list
abbrev pub most_typed : ℕ
most_typed = 7715

-- how many records the frames add to a table
unfoldable pub entries : Kind → List Frame → ℕ
entries kind fs = count_by (λ f. is_some (record_in kind f)) fs

-- a table, record after record, in the order of the frames
unfoldable pub table : Kind → List Frame → List ℕ
table kind fs = flat_map (λ f. unwrap_or (record_in kind f) []) fs

-- an entry of a list: a round, and a mark
abbrev pub Entry : Type 0
Entry = ℕ × State × State × Concept

-- the entry that a frame is, if it is one
abbrev pub entry_in : Frame → Option Entry
entry_in (ListedMark n s t B) = Some (n, s, t, B)
entry_in f = None

-- and the frame that an entry is
abbrev pub frame_of : Entry → Frame
frame_of (n, s, t, B) = ListedMark n s t B

-- the list among some frames, in their order
unfoldable pub list_in : List Frame → List Entry
list_in fs = filter_map entry_in fs

-- what line 1 declares; before it nothing is declared
abbrev pub declared_by : List Frame → Counts
declared_by (Declared c ∷ fs) = c
declared_by fs = record { names = 0; roles = 0; individuals = 0; states = 0; start = state 0 }

-- the allowance, if one is given
abbrev pub allowance_given : List Frame → Option ℕ
allowance_given [] = None
allowance_given (Allowance n ∷ fs) = Some n
allowance_given (f ∷ fs) = allowance_given fs

-- the marks of the expression, if one is given
abbrev pub expression_given : List Frame → Option (List ℕ)
expression_given [] = None
expression_given (Expression row ∷ fs) = Some row
expression_given (f ∷ fs) = expression_given fs

-- salvage is chosen
abbrev pub salvages : List Frame → Bool
salvages [] = false
salvages (Salvage ∷ fs) = true
salvages (f ∷ fs) = salvages fs

-- what a line types; an entry of a list stands behind all facts, and is left out
abbrev pub typed_in : Frame → Option Typed
typed_in (ConceptFact A a n) = Some typed.ConceptFact
typed_in (RoleFact r a b n) = Some typed.RoleFact
typed_in (ListedMark n s t B) = None
typed_in f = Some typed.Other

-- and what each line before the list types
unfoldable pub typed_lines : List Frame → List Typed
typed_lines fs = filter_map typed_in fs

-- the frames that add no record
abbrev pub is_declared : Frame → Bool
is_declared (Declared c) = true
is_declared f = false

abbrev pub is_allowance : Frame → Bool
is_allowance (Allowance n) = true
is_allowance f = false

abbrev pub is_expression : Frame → Bool
is_expression (Expression row) = true
is_expression f = false

abbrev pub is_salvage : Frame → Bool
is_salvage Salvage = true
is_salvage f = false

-- the rounds that a file allows: where it does not say, as many as always suffice
abbrev pub rounds_allowed : List Frame → ℕ
rounds_allowed fs = unwrap_or (allowance_given fs) (most_rounds (declared_by fs))
