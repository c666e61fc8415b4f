-- The tests on records by their fields are those of `meaning` on its pairs and triples.
use Rattle.std.specs.Prelude.{◌≡◌, ◌↔◌, Bool, true, false, List, ℕ, zero, suc, ◌/◌, ◌≤◌, length}
use Rattle.std.proofs.lemmas.Bool.{false≢true}
use Rattle.kinds.specs.declared.Counts.{Counts}
use Rattle.kinds.specs.Kinds.{StateDeclared}
use Rattle.laws.specs.Numbers.{numbered-in, numbered-out}
use Rattle.meaning.specs.Collection.{Each, ConceptsDeclared, RolesDeclared, ConceptFactDeclared, RoleFactDeclared, StepDeclared}
use Rattle.meaning.specs.Lent.{records, field, rule_width, concept_fact_width, role_fact_width, step_width, final_width}
use Rattle.meaning.specs.Lent.{concept_pair, role_pair, concept_fact, role_fact, letter_of, step_at, final_at, NumbersFit}
use Rattle.tables.specs.declared.collection.Collection.{Collection}
use Rattle.tables.specs.Every.{EachRecord}
use Rattle.tables.specs.Letters.{read_letter, IsLetterDeclared}
use Rattle.tables.specs.Lists.{lists, RecordsFit}
use Rattle.meaning.specs.Collection.{LetterDeclared}

-- where a test fails its fact does not hold
pub fails : {b : Bool} {P : Type 0} → (b ≡ true) ↔ P → b ≡ false → P → ⊥
fails h e p = false≢true (rw e at (h.1 p))

module _ {A : Type 0} (w : ℕ) (read : List ℕ → ℕ → A) (P : A → Type 0) (t : List ℕ) where
  pub each_in : EachRecord w read t P → Each (records w read t) P
  unfolding records
  each_in h x m = let y = numbered-out (read t) (length t / w) m in rw y.2 (h y.0 y.1)

  pub each-out : Each (records w read t) P → EachRecord w read t P
  unfolding records
  each-out h k l = h (read t k) (numbered-in (read t) (length t / w) k l)

-- a letter of either kind
letter_in : (c : Counts) (kind x : ℕ) → IsLetterDeclared c (read_letter kind x) → LetterDeclared c (letter_of kind x)
letter_in c zero x h = h
letter_in c (suc kind) x h = h

letter-out : (c : Counts) (kind x : ℕ) → LetterDeclared c (letter_of kind x) → IsLetterDeclared c (read_letter kind x)
letter-out c zero x h = h
letter-out c (suc kind) x h = h

module _ (c : Collection) where
  abbrev n : Counts
  n = c.counts

  numbers_in : RecordsFit c → NumbersFit c.counts (lists c)
  numbers_in h = record {
    declared = record {
      concept-rules = each_in rule_width concept_pair (ConceptsDeclared n) _ h.concept_rules;
      concept-exclusions = each_in rule_width concept_pair (ConceptsDeclared n) _ h.concept_exclusions;
      role-rules = each_in rule_width role_pair (RolesDeclared n) _ h.role_rules;
      role-exclusions = each_in rule_width role_pair (RolesDeclared n) _ h.role_exclusions;
      concept-facts = each_in concept_fact_width concept_fact (ConceptFactDeclared n) _ h.concept_facts;
      role-facts = each_in role_fact_width role_fact (RoleFactDeclared n) _ h.role_facts;
      steps = each_in step_width step_at (StepDeclared n) _ (λ k l. let s = h.steps k l in (s.0, letter_in n _ _ s.1, s.2));
      finals = each_in final_width final_at (StateDeclared n) _ h.finals;
    };
    step-kinds = each_in step_width (λ t k. field step_width t 0 k) (λ k. k ≤ 1) _ h.step_kinds;
  }

  numbers-out : NumbersFit c.counts (lists c) → RecordsFit c
  numbers-out h = let d = h.declared in record {
    concept_rules = each-out rule_width concept_pair (ConceptsDeclared n) _ d.concept-rules;
    concept_exclusions = each-out rule_width concept_pair (ConceptsDeclared n) _ d.concept-exclusions;
    role_rules = each-out rule_width role_pair (RolesDeclared n) _ d.role-rules;
    role_exclusions = each-out rule_width role_pair (RolesDeclared n) _ d.role-exclusions;
    concept_facts = each-out concept_fact_width concept_fact (ConceptFactDeclared n) _ d.concept-facts;
    role_facts = each-out role_fact_width role_fact (RoleFactDeclared n) _ d.role-facts;
    steps = λ k l. let s = each-out step_width step_at (StepDeclared n) _ d.steps k l in (s.0, letter-out n _ _ s.1, s.2);
    step_kinds = each-out step_width (λ t k. field step_width t 0 k) (λ k. k ≤ 1) _ h.step-kinds;
    finals = each-out final_width final_at (StateDeclared n) _ d.finals;
  }

  pub numbers-meant : RecordsFit c ↔ NumbersFit c.counts (lists c)
  numbers-meant = (numbers_in, numbers-out)
