-- The lists of numbers that a lent collection's tables hold, and test 6 as facts about records by
-- their fields.
use Rattle.std.specs.Prelude.{List, ℕ}
use Rattle.kinds.specs.declared.Counts.{Counts}
use Rattle.meaning.specs.Lent.{Tables, rule_width, concept_fact_width, role_fact_width, step_width, final_width, final_at}
use Rattle.kinds.specs.Kinds.{StateDeclared}
use Rattle.tables.specs.declared.collection.Collection.{Collection}
use Rattle.tables.specs.Every.{EachRecord}
use Rattle.tables.specs.Records.{read_concept_pair, read_role_pair, read_concept_fact, read_role_fact, read_step, read_step_kind, IsConceptPairDeclared, IsRolePairDeclared, IsConceptFactDeclared, IsRoleFactDeclared, IsStepDeclared, IsStepKind}

-- the numbers in each table of a collection
abbrev pub lists : Collection → Tables
lists c = record {
  concept-rules = c.concept_rules.numbers.now;
  concept-exclusions = c.concept_exclusions.numbers.now;
  role-rules = c.role_rules.numbers.now;
  role-exclusions = c.role_exclusions.numbers.now;
  concept-facts = c.concept_facts.numbers.now;
  role-facts = c.role_facts.numbers.now;
  steps = c.steps.numbers.now;
  finals = c.finals.numbers.now;
}

-- every record of a table is declared
module _ (c : Counts) (t : List ℕ) where
  abbrev pub AreConceptPairs : Type 0
  AreConceptPairs = EachRecord rule_width read_concept_pair t (IsConceptPairDeclared c)

  abbrev pub AreRolePairs : Type 0
  AreRolePairs = EachRecord rule_width read_role_pair t (IsRolePairDeclared c)

  abbrev pub AreConceptFacts : Type 0
  AreConceptFacts = EachRecord concept_fact_width read_concept_fact t (IsConceptFactDeclared c)

  abbrev pub AreRoleFacts : Type 0
  AreRoleFacts = EachRecord role_fact_width read_role_fact t (IsRoleFactDeclared c)

  abbrev pub AreSteps : Type 0
  AreSteps = EachRecord step_width read_step t (IsStepDeclared c)

  -- each step's kind is 0 or 1
  abbrev pub AreStepKinds : Type 0
  AreStepKinds = EachRecord step_width read_step_kind t (IsStepKind c)

  abbrev pub AreFinalStates : Type 0
  AreFinalStates = EachRecord final_width final_at t (StateDeclared c)

-- every number in every record is declared, and each step's kind is 0 or 1
pub record RecordsFit (c : Collection) : Type 0 where
  pub concept_rules : AreConceptPairs c.counts c.concept_rules.numbers.now
  pub concept_exclusions : AreConceptPairs c.counts c.concept_exclusions.numbers.now
  pub role_rules : AreRolePairs c.counts c.role_rules.numbers.now
  pub role_exclusions : AreRolePairs c.counts c.role_exclusions.numbers.now
  pub concept_facts : AreConceptFacts c.counts c.concept_facts.numbers.now
  pub role_facts : AreRoleFacts c.counts c.role_facts.numbers.now
  pub steps : AreSteps c.counts c.steps.numbers.now
  pub step_kinds : AreStepKinds c.counts c.steps.numbers.now
  pub finals : AreFinalStates c.counts c.finals.numbers.now
