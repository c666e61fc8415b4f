-- Record k of each table by its fields, and when its numbers are declared.
use Rattle.std.specs.Prelude.{ℕ, ◌≤◌, List}
use Rattle.kinds.specs.declared.Counts.{Counts}
use Rattle.kinds.specs.Kinds.{concept_name, role_name, individual, state, signed, deed_number, concept_of, NameDeclared, RoleDeclared, SignedDeclared, IndividualDeclared, StateDeclared, ConceptDeclared}
use Rattle.meaning.specs.Lent.{field, rule_width, concept_fact_width, role_fact_width, step_width}
use Rattle.tables.specs.declared.records.ConceptPair.{ConceptPair}
use Rattle.tables.specs.declared.records.RolePair.{RolePair}
use Rattle.tables.specs.declared.records.ConceptFact.{ConceptFact}
use Rattle.tables.specs.declared.records.RoleFact.{RoleFact}
use Rattle.tables.specs.declared.records.Step.{Step}
use Rattle.tables.specs.declared.records.StepKind.{StepKind}
use Rattle.tables.specs.Letters.{read_letter, IsLetterDeclared}

abbrev pub read_concept_pair : List ℕ → ℕ → ConceptPair
read_concept_pair t k = record {
  left = concept_of (field rule_width t 0 k);
  right = concept_of (field rule_width t 1 k);
}

abbrev pub read_role_pair : List ℕ → ℕ → RolePair
read_role_pair t k = record {
  left = signed (field rule_width t 0 k);
  right = signed (field rule_width t 1 k);
}

abbrev pub read_concept_fact : List ℕ → ℕ → ConceptFact
read_concept_fact t k = record {
  name = concept_name (field concept_fact_width t 0 k);
  individual = individual (field concept_fact_width t 1 k);
  deed = deed_number (field concept_fact_width t 2 k);
}

abbrev pub read_role_fact : List ℕ → ℕ → RoleFact
read_role_fact t k = record {
  role = role_name (field role_fact_width t 0 k);
  first = individual (field role_fact_width t 1 k);
  second = individual (field role_fact_width t 2 k);
  deed = deed_number (field role_fact_width t 3 k);
}

abbrev pub read_step : List ℕ → ℕ → Step
read_step t k = record {
  from = state (field step_width t 1 k);
  letter = read_letter (field step_width t 0 k) (field step_width t 2 k);
  to = state (field step_width t 3 k);
}

abbrev pub read_step_kind : List ℕ → ℕ → StepKind
read_step_kind t k = record { 0 = field step_width t 0 k }

abbrev pub IsConceptPairDeclared : Counts → ConceptPair → Type 0
IsConceptPairDeclared c r = ConceptDeclared c r.left × ConceptDeclared c r.right

abbrev pub IsRolePairDeclared : Counts → RolePair → Type 0
IsRolePairDeclared c r = SignedDeclared c r.left × SignedDeclared c r.right

-- any deed number will do
abbrev pub IsConceptFactDeclared : Counts → ConceptFact → Type 0
IsConceptFactDeclared c f = NameDeclared c f.name × IndividualDeclared c f.individual

abbrev pub IsRoleFactDeclared : Counts → RoleFact → Type 0
IsRoleFactDeclared c f =
    RoleDeclared c f.role × IndividualDeclared c f.first × IndividualDeclared c f.second

abbrev pub IsStepDeclared : Counts → Step → Type 0
IsStepDeclared c s = StateDeclared c s.from × IsLetterDeclared c s.letter × StateDeclared c s.to

-- a step's kind is 0 or 1
abbrev pub IsStepKind : Counts → StepKind → Type 0
IsStepKind c s = s.0 ≤ 1
