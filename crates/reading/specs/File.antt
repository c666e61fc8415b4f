-- What each ask is as a call of the library (docs/RULES.md, section 8); and what is held of the
-- frames that are read, each fact about them in its own field.
use Rattle.std.specs.Prelude.{ℕ, true, false, ◌+◌, ◌*◌, ◌^◌, ◌<◌, ◌≤◌, ◌≡◌, ◌-◌, List, [], ◌∷◌, ◌++◌, Option, None, Some, IfSome, ⊤, length, min, nat_lt, if◌then◌else◌, unwrap_or}
use Rattle.kinds.specs.Kinds.{number_of}
use Rattle.meaning.specs.Lent.{Tables, Call}
use Rattle.meaning.specs.Demands.{most_rounds}
use Rattle.meaning.specs.Layout.{zeros}
use Rattle.kinds.specs.declared.Ask as kinds
use Rattle.tables.specs.Asks.{read_ask}
use Rattle.expression.specs.Listed.{Listed}
use Rattle.expression.specs.Answer.{IsAutomatonOf}
use Rattle.frames.specs.declared.Frame.{Frame}
use Rattle.frames.specs.declared.Frame.TheVariants.{Declared, ConceptRule, ConceptExclusion, RoleRule, RoleExclusion, ConceptFact, RoleFact, RoleStep, TestStep, Final, Ask, AskFrom, Allowance, Expression, Salvage, ListedMark}
use Rattle.salvage.specs.declared.Typed.{Typed}
use Rattle.reading.specs.declared.File.{File}
use Rattle.reading.specs.Tables.{Kind, concept_rules, concept_exclusions, role_rules, role_exclusions, concept_facts, role_facts, steps, finals, asks, listed, width, most, most_listed, most_typed, entries, table, declared_by, allowance_given, expression_given, salvages, typed_in, typed_lines, rounds_allowed}

-- the question of some frames, by their expression if there is one, and by the steps and final
-- states that they type: of an expression, those of its automaton
pub record IsChosen (given : Option (List ℕ)) (t q : Listed) : Type 0 where
  pub typed : given ≡ None → q ≡ t
  pub expressed : IfSome given (λ row. IsAutomatonOf row q)

abbrev pub IsQuestionOf : List Frame → Listed → Type 0
IsQuestionOf fs =
    IsChosen (expression_given fs)
    (record {
      states = (declared_by fs).states;
      steps = table steps fs;
      finals = table finals fs;
    })

-- the tables that some frames fill, with their question
abbrev pub tables_of : List Frame → Listed → Tables
tables_of fs q = record {
  concept-rules = table concept_rules fs;
  concept-exclusions = table concept_exclusions fs;
  role-rules = table role_rules fs;
  role-exclusions = table role_exclusions fs;
  concept-facts = table concept_facts fs;
  role-facts = table role_facts fs;
  steps = q.steps;
  finals = q.finals;
}

-- ask k, as a call of the library over the whole file
abbrev pub asked : List Frame → Listed → ℕ → Call
asked fs q k = record {
  counts = declared_by fs;
  tables = tables_of fs q;
  ask = read_ask (table asks fs) k;
  allowance = rounds_allowed fs;
  area = zeros;
  spare = zeros;
}

-- what is held of some frames
abbrev pub file_of : List Frame → File
file_of fs = record {
  counts = declared_by fs;
  allowance = allowance_given fs;
  concept_rules = table concept_rules fs;
  concept_exclusions = table concept_exclusions fs;
  role_rules = table role_rules fs;
  role_exclusions = table role_exclusions fs;
  concept_facts = table concept_facts fs;
  role_facts = table role_facts fs;
  steps = table steps fs;
  finals = table finals fs;
  expression = expression_given fs;
  asks = table asks fs;
  lines = length fs;
  listed = entries listed fs;
  salvages = salvages fs;
  typed = typed_lines fs;
}

-- the question of what is held
abbrev pub typed_question : File → Listed
typed_question file =
    record { states = file.counts.states; steps = file.steps; finals = file.finals }

abbrev pub IsQuestion : File → Listed → Type 0
IsQuestion file = IsChosen file.expression (typed_question file)

-- the tables that the library is lent
abbrev pub lent_tables : File → Listed → Tables
lent_tables file q = record {
  concept-rules = file.concept_rules;
  concept-exclusions = file.concept_exclusions;
  role-rules = file.role_rules;
  role-exclusions = file.role_exclusions;
  concept-facts = file.concept_facts;
  role-facts = file.role_facts;
  steps = q.steps;
  finals = q.finals;
}

-- steps and final states are those of the question of what is held
pub record Asks (file : File) (its_steps its_finals : List ℕ) : Type 0 where
  pub question : Listed
  pub is : IsQuestion file question
  pub steps_are : its_steps ≡ question.steps
  pub finals_are : its_finals ≡ question.finals

-- tables are those that are held, with the question of what is held
pub record LendsTables (file : File) (tables : Tables) : Type 0 where
  pub question : Listed
  pub is : IsQuestion file question
  pub are : tables ≡ lent_tables file question

-- the allowance, and where none is given as many rounds as always suffice
abbrev pub allowance_in : File → ℕ
allowance_in file = unwrap_or file.allowance (most_rounds file.counts)

-- ask k of what is held, and its call of the library
abbrev pub held_ask : File → ℕ → kinds.Ask
held_ask file k = read_ask file.asks k

abbrev pub held_call : File → Listed → ℕ → Call
held_call file q k = record {
  counts = file.counts;
  tables = lent_tables file q;
  ask = held_ask file k;
  allowance = allowance_in file;
  area = zeros;
  spare = zeros;
}

-- line 1 is held, and no entry of a list is
pub record HoldsOpen (file : File) : Type 0 where
  pub begun : 0 < file.lines
  pub no_list : file.listed ≡ 0

-- a frame is in its place, by what is held
abbrev pub IsInPlace : File → Frame → Type 0
IsInPlace file (Declared c) = file.lines ≡ 0
IsInPlace file (Allowance n) = HoldsOpen file × (file.allowance ≡ None)
IsInPlace file (RoleStep s R t) = HoldsOpen file × (file.expression ≡ None)
IsInPlace file (TestStep s A t) = HoldsOpen file × (file.expression ≡ None)
IsInPlace file (Final s) = HoldsOpen file × (file.expression ≡ None)
IsInPlace file (Expression row) =
    HoldsOpen file × (file.expression ≡ None) × (file.steps ≡ []) × (file.finals ≡ [])
IsInPlace file Salvage = HoldsOpen file × (file.salvages ≡ false)
IsInPlace file (ListedMark n s t B) = 0 < file.lines
IsInPlace file other = HoldsOpen file

-- a table of some numbers has room for one more record
abbrev pub RoomIn : Kind → List ℕ → Type 0
RoomIn kind numbers = length numbers + width kind ≤ width kind * most kind

-- the table that a frame goes into has room for it
abbrev pub HasShelfRoom : File → Frame → Type 0
HasShelfRoom file (ConceptRule C D) = RoomIn concept_rules file.concept_rules
HasShelfRoom file (ConceptExclusion C D) = RoomIn concept_exclusions file.concept_exclusions
HasShelfRoom file (RoleRule R S) = RoomIn role_rules file.role_rules
HasShelfRoom file (RoleExclusion R S) = RoomIn role_exclusions file.role_exclusions
HasShelfRoom file (ConceptFact A a n) = RoomIn concept_facts file.concept_facts
HasShelfRoom file (RoleFact r a b n) = RoomIn role_facts file.role_facts
HasShelfRoom file (RoleStep s R t) = RoomIn steps file.steps
HasShelfRoom file (TestStep s A t) = RoomIn steps file.steps
HasShelfRoom file (Final s) = RoomIn finals file.finals
HasShelfRoom file (Ask a b) = RoomIn asks file.asks
HasShelfRoom file (AskFrom a) = RoomIn asks file.asks
HasShelfRoom file (ListedMark n s t B) = file.listed < most_listed
HasShelfRoom file other = ⊤

-- the numbers of a rule's concepts go into 16 bits
abbrev pub IsSmall : Frame → Type 0
IsSmall (ConceptRule C D) = (number_of C < 2 ^ 16) × (number_of D < 2 ^ 16)
IsSmall (ConceptExclusion C D) = (number_of C < 2 ^ 16) × (number_of D < 2 ^ 16)
IsSmall other = ⊤

-- a frame more
abbrev pub fields_with : Frame → File → File
fields_with (Declared c) t = record t { counts = c }
fields_with (ConceptRule C D) t =
    record t { concept_rules = t.concept_rules ++ (number_of C ∷ number_of D ∷ []) }
fields_with (ConceptExclusion C D) t =
    record t { concept_exclusions = t.concept_exclusions ++ (number_of C ∷ number_of D ∷ []) }
fields_with (RoleRule R S) t = record t { role_rules = t.role_rules ++ (R.0 ∷ S.0 ∷ []) }
fields_with (RoleExclusion R S) t =
    record t { role_exclusions = t.role_exclusions ++ (R.0 ∷ S.0 ∷ []) }
fields_with (ConceptFact A a n) t =
    record t { concept_facts = t.concept_facts ++ (A.0 ∷ a.0 ∷ n.0 ∷ []) }
fields_with (RoleFact r a b n) t =
    record t { role_facts = t.role_facts ++ (r.0 ∷ a.0 ∷ b.0 ∷ n.0 ∷ []) }
fields_with (RoleStep s R u) t = record t { steps = t.steps ++ (0 ∷ s.0 ∷ R.0 ∷ u.0 ∷ []) }
fields_with (TestStep s A u) t = record t { steps = t.steps ++ (1 ∷ s.0 ∷ A.0 ∷ u.0 ∷ []) }
fields_with (Final s) t = record t { finals = t.finals ++ s.0 ∷ [] }
fields_with (Ask a b) t = record t { asks = t.asks ++ (0 ∷ a.0 ∷ b.0 ∷ []) }
fields_with (AskFrom a) t = record t { asks = t.asks ++ (1 ∷ a.0 ∷ 0 ∷ []) }
fields_with (Allowance n) t = record t { allowance = Some n }
fields_with (Expression row) t = record t { expression = Some row }
fields_with Salvage t = record t { salvages = true }
fields_with (ListedMark n s t B) file = record file { listed = file.listed + 1 }

-- what a line types, noted behind what those before it type, as far as there is room
abbrev pub typed_with : List Typed → Option Typed → List Typed
typed_with l None = l
typed_with l (Some x) = if nat_lt (length l) most_typed then l ++ x ∷ [] else l

-- the lines are counted as far as 64 bits count
abbrev pub file_with : Frame → File → File
file_with f t = record (fields_with f t) {
  lines = min (t.lines + 1) (2 ^ 64 - 1);
  typed = typed_with t.typed (typed_in f);
}
