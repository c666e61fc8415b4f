-- What is computed of a call is its outcome, and a call has no other: every input has an outcome, and only one.
use Rattle.std.specs.Prelude.{◌↔◌, IsTrue, List, ℕ, ◌*◌, ◌/◌, ◌%◌, ◌≤◌, T, length}
use Rattle.kinds.specs.declared.ConceptName.{ConceptName}
use Rattle.kinds.specs.declared.RoleName.{RoleName}
use Rattle.kinds.specs.declared.Individual.{Individual}
use Rattle.kinds.specs.declared.State.{State}
use Rattle.kinds.specs.declared.SignedRole.{SignedRole}
use Rattle.kinds.specs.declared.Concept.{Concept}
use Rattle.kinds.specs.declared.Counts.{Counts}
use Rattle.kinds.specs.declared.Ask.{Ask}
use Rattle.kinds.specs.declared.Ask.TheVariants.{Pair, From}
use Rattle.kinds.specs.Asks.{AskDeclared}
use Rattle.kinds.specs.Kinds.{most_names, most_roles, most_individuals, most_states, CountsFit, StateDeclared, ConceptDeclared}
use Rattle.laws.specs.Truth.{test-and, test-below, test-equal, test-every, test-most, test-of, test-same}
use Rattle.meaning.specs.Collection.{Collection, Letter, role, test, Step, step, StepDeclared, LetterDeclared, ConceptsDeclared, RolesDeclared, ConceptFactDeclared, RoleFactDeclared, NumbersDeclared, WellFormed}
use Rattle.theory.specs.Sheet.{Markable, Mark}
use Rattle.theory.proofs.SheetLaws.{mark-markable}
use Rattle.meaning.specs.Lite.{lite}
use Rattle.meaning.specs.Lent.{Tables, Call, collection_of, records, field, Whole, ShapesOk, TablesOk, NumbersOk, AskOk, rule_width, concept_fact_width, role_fact_width, step_width, final_width, most_concept_rules, most_concept_exclusions, most_role_rules, most_role_exclusions, most_concept_facts, most_role_facts, most_steps, most_finals}
use Rattle.meaning.specs.Layout.{area_length, LaysBy, Lays}
use Rattle.meaning.proofs.LayoutLaws.{state_declared, concept_declared, concept_declared-in, concept_declared-out, image, image-lays-by}
use Rattle.meaning.proofs.Declared.{state-in, state-out, concept-in, concept-out}
use Rattle.meaning.proofs.LiteSheet.{lite_sheet, lite-mark-in, lite-mark-out}
use Rattle.meaning.proofs.Calculate.{counts_fit, whole, shapes_ok, areas_ok, tables_ok, concepts_declared, roles_declared, concept_fact_declared, role_fact_declared, letter_declared, step_declared, numbers_declared, kind_ok, numbers_ok, ask_ok}

-- test 4
pub counts-test : (c : Counts) → IsTrue (counts_fit c) ↔ (CountsFit c)
unfolding counts_fit
counts-test c =
    test-same (test-and (test-most c.names most_names) (test-and (test-most c.roles most_roles) (test-and (test-most c.individuals most_individuals) (test-and (test-most c.states most_states) (test-below c.start.0 c.states)))))
    (λ h. record { names = h.0; roles = h.1.0; individuals = h.1.1.0; states = h.1.1.1.0; start = h.1.1.1.1 })
    (λ h. (h.names, (h.roles, (h.individuals, (h.states, h.start)))))

-- test 5
whole-test : (width most : ℕ) (t : List ℕ) → IsTrue (whole width most t) ↔ (Whole width most t)
unfolding whole
whole-test width most t =
    test-same (test-and (test-equal (length t % width) 0) (test-most (length t / width) most))
    (λ h. record { unbroken = h.0; few = h.1 })
    (λ h. (h.unbroken, h.few))

pub shapes-test : (t : Tables) → IsTrue (shapes_ok t) ↔ (ShapesOk t)
unfolding shapes_ok
shapes-test t =
    test-same
    (test-and (whole-test rule_width most_concept_rules t.concept-rules) (test-and (whole-test rule_width most_concept_exclusions t.concept-exclusions)
    (test-and (whole-test rule_width most_role_rules t.role-rules) (test-and (whole-test rule_width most_role_exclusions t.role-exclusions)
    (test-and (whole-test concept_fact_width most_concept_facts t.concept-facts) (test-and (whole-test role_fact_width most_role_facts t.role-facts)
    (test-and (whole-test step_width most_steps t.steps) (whole-test final_width most_finals t.finals))))))))
    (λ h. record {
      concept-rules = h.0;
      concept-exclusions = h.1.0;
      role-rules = h.1.1.0;
      role-exclusions = h.1.1.1.0;
      concept-facts = h.1.1.1.1.0;
      role-facts = h.1.1.1.1.1.0;
      steps = h.1.1.1.1.1.1.0;
      finals = h.1.1.1.1.1.1.1;
    })
    (λ h. (h.concept-rules, (h.concept-exclusions, (h.role-rules, (h.role-exclusions, (h.concept-facts, (h.role-facts, (h.steps, h.finals))))))))

pub tables-test : (c : Call) → IsTrue (tables_ok c) ↔ (TablesOk c)
unfolding tables_ok areas_ok
tables-test c =
    test-same (test-and (shapes-test c.tables) (test-and (test-equal (length c.area) area_length) (test-equal (length c.spare) area_length)))
    (λ h. record { tables = h.0; area = h.1.0; spare = h.1.1 })
    (λ h. (h.tables, (h.area, h.spare)))

-- test 6
module _ (c : Counts) where
  concept-test : (C : Concept) → IsTrue (concept_declared c C) ↔ (ConceptDeclared c C)
  concept-test C = test-of (concept_declared c C) (concept_declared-out c C) (concept_declared-in c C)

  concepts-test : (r : Concept × Concept) → IsTrue (concepts_declared c r) ↔ (ConceptsDeclared c r)
  unfolding concepts_declared
  concepts-test r = test-and (concept-test r.0) (concept-test r.1)

  roles-test : (r : SignedRole × SignedRole) → IsTrue (roles_declared c r) ↔ (RolesDeclared c r)
  unfolding roles_declared
  roles-test r = test-and (test-below r.0.0 (2 * c.roles)) (test-below r.1.0 (2 * c.roles))

  concept-fact-test : (f : ConceptName × Individual) → IsTrue (concept_fact_declared c f) ↔ (ConceptFactDeclared c f)
  unfolding concept_fact_declared
  concept-fact-test f = test-and (test-below f.0.0 c.names) (test-below f.1.0 c.individuals)

  role-fact-test : (f : RoleName × Individual × Individual) → IsTrue (role_fact_declared c f) ↔ (RoleFactDeclared c f)
  unfolding role_fact_declared
  role-fact-test f =
      test-same (test-and (test-below f.0.0 c.roles) (test-and (test-below f.1.0 c.individuals) (test-below f.2.0 c.individuals)))
      (λ h. (h.0, h.1.0, h.1.1)) (λ h. (h.0, (h.1, h.2)))

  letter-test : (l : Letter) → IsTrue (letter_declared c l) ↔ (LetterDeclared c l)
  letter-test (role S) = test-below S.0 (2 * c.roles)
  letter-test (test A) = test-below A.0 c.names

  step-test : (e : Step) → IsTrue (step_declared c e) ↔ (StepDeclared c e)
  step-test (step s l t) =
      test-same (test-and (test-below s.0 c.states) (test-and (letter-test l) (test-below t.0 c.states)))
      (λ h. (h.0, h.1.0, h.1.1)) (λ h. (h.0, (h.1, h.2)))

  state-test : (s : State) → IsTrue (state_declared c s) ↔ (StateDeclared c s)
  state-test s = test-below s.0 c.states

declared-test : (𝓒 : Collection) → IsTrue (numbers_declared 𝓒) ↔ (NumbersDeclared 𝓒)
unfolding numbers_declared
declared-test 𝓒 =
    let c = 𝓒.counts in
    test-same
    (test-and (test-every 𝓒.concept-rules (concepts_declared c) (ConceptsDeclared c) (concepts-test c))
    (test-and (test-every 𝓒.concept-exclusions (concepts_declared c) (ConceptsDeclared c) (concepts-test c))
    (test-and (test-every 𝓒.role-rules (roles_declared c) (RolesDeclared c) (roles-test c))
    (test-and (test-every 𝓒.role-exclusions (roles_declared c) (RolesDeclared c) (roles-test c))
    (test-and (test-every 𝓒.concept-facts (concept_fact_declared c) (ConceptFactDeclared c) (concept-fact-test c))
    (test-and (test-every 𝓒.role-facts (role_fact_declared c) (RoleFactDeclared c) (role-fact-test c))
    (test-and (test-every 𝓒.steps (step_declared c) (StepDeclared c) (step-test c))
    (test-every 𝓒.finals (state_declared c) (StateDeclared c) (state-test c)))))))))
    (λ h. record {
      concept-rules = h.0;
      concept-exclusions = h.1.0;
      role-rules = h.1.1.0;
      role-exclusions = h.1.1.1.0;
      concept-facts = h.1.1.1.1.0;
      role-facts = h.1.1.1.1.1.0;
      steps = h.1.1.1.1.1.1.0;
      finals = h.1.1.1.1.1.1.1;
    })
    (λ h. (h.concept-rules, (h.concept-exclusions, (h.role-rules, (h.role-exclusions, (h.concept-facts, (h.role-facts, (h.steps, h.finals))))))))

pub numbers-test : (c : Call) → IsTrue (numbers_ok c.counts c.tables) ↔ (NumbersOk c)
unfolding numbers_ok
numbers-test c =
    test-same (test-and (declared-test (collection_of c)) (test-every (records 4 (λ t k. field 4 t 0 k) c.tables.steps) kind_ok (λ k. k ≤ 1) (λ k. test-most k 1)))
    (λ h. record { declared = h.0; step-kinds = h.1 })
    (λ h. (h.declared, h.step-kinds))

-- test 8
ask-declared-test : (c : Counts) (ask : Ask) → IsTrue (ask_ok c ask) ↔ (AskDeclared c ask)
unfolding ask_ok
ask-declared-test c (Pair a b) = test-and (test-below a.0 c.individuals) (test-below b.0 c.individuals)
ask-declared-test c (From a) = test-below a.0 c.individuals

pub ask-test : (c : Call) → IsTrue (ask_ok c.counts c.ask) ↔ (AskOk c)
ask-test c = ask-declared-test c.counts c.ask

-- the area that is computed holds the sheet
module _ (𝓒 : Collection) (ok : WellFormed 𝓒) where
  mark-declared : (n : ℕ) (s t : State) (B : Concept) → Mark (lite 𝓒) n s t B
      → StateDeclared 𝓒.counts s × StateDeclared 𝓒.counts t × ConceptDeclared 𝓒.counts B
  mark-declared n s t B m =
      let p = mark-markable (lite 𝓒) n s t B m in
      (state-out 𝓒.counts s p.from, state-out 𝓒.counts t p.to, concept-out 𝓒.counts B p.of)

  declared-mark : (n : ℕ) (s t : State) (B : Concept) → StateDeclared 𝓒.counts s → StateDeclared 𝓒.counts t → ConceptDeclared 𝓒.counts B
      → T (lite_sheet 𝓒 n s t B) → Mark (lite 𝓒) n s t B
  declared-mark n s t B i j d h =
      let p : Markable (lite 𝓒) s t B = record { from = state-in 𝓒.counts s i; to = state-in 𝓒.counts t j; of = concept-in 𝓒.counts B d } in
      lite-mark-out 𝓒 ok.numbers n s t B p h

  pub sheet-lays-by : (states : ℕ) → 𝓒.counts.states ≤ states → (n : ℕ)
      → LaysBy states (Mark (lite 𝓒) n) (image states 𝓒.counts (lite_sheet 𝓒 n))
  sheet-lays-by states few n = image-lays-by 𝓒.counts ok.counts (lite_sheet 𝓒 n) (Mark (lite 𝓒) n) (mark-declared n) (lite-mark-in 𝓒 ok.numbers n) (declared-mark n) states few

  pub sheet-lays : (n : ℕ) → Lays (Mark (lite 𝓒) n) (image most_states 𝓒.counts (lite_sheet 𝓒 n))
  sheet-lays = sheet-lays-by most_states ok.counts.states
