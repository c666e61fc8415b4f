-- Calculation: the answer to a library call, from the raw lent tables on, and what both areas hold after it.
use Rattle.std.specs.Prelude.{Bool, List, ℕ, ◌*◌, ◌/◌, ◌%◌, leb, ltb, eqb, length}
use Rattle.kinds.specs.declared.ConceptName.{ConceptName}
use Rattle.kinds.specs.declared.RoleName.{RoleName}
use Rattle.kinds.specs.declared.Individual.{Individual}
use Rattle.kinds.specs.declared.SignedRole.{SignedRole}
use Rattle.kinds.specs.declared.Concept.{Concept}
use Rattle.kinds.specs.declared.Counts.{Counts}
use Rattle.kinds.specs.declared.Ask.{Ask}
use Rattle.kinds.specs.declared.Ask.TheVariants.{Pair, From}
use Rattle.kinds.specs.declared.Answer.{Answer}
use Rattle.kinds.specs.declared.Answer.TheVariants.{No, Yes, Contradiction, AllowanceSpent, BadCount, BadTable, BadNumber, BadAsk}
use Rattle.kinds.specs.Kinds.{most_names, most_roles, most_individuals, most_states}
use Rattle.laws.specs.Search.{and, every, pick}
use Rattle.meaning.specs.Collection.{Collection, Letter, role, test, Step, step}
use Rattle.meaning.specs.Lent.{Tables, Call, collection, collection_of, records, field}
use Rattle.meaning.specs.Lent.{rule_width, concept_fact_width, role_fact_width, step_width, final_width, most_concept_rules, most_concept_exclusions, most_role_rules, most_role_exclusions, most_concept_facts, most_role_facts, most_steps, most_finals}
use Rattle.meaning.specs.Layout.{area_length, zeros}
use Rattle.meaning.proofs.LayoutLaws.{state_declared, concept_declared, image}
use Rattle.meaning.proofs.LiteSheet.{lite_sheet, lite_work}
use Rattle.meaning.proofs.Reply.{clash, is_yes}

unfoldable pub counts_fit : Counts → Bool
counts_fit c =
    let e = ltb c.start.0 c.states in
    let d = and (leb c.states most_states) e in
    let b = and (leb c.individuals most_individuals) d in
    let a = and (leb c.roles most_roles) b in
    and (leb c.names most_names) a

unfoldable pub whole : ℕ → ℕ → List ℕ → Bool
whole width most t = let b = leb (length t / width) most in and (eqb (length t % width) 0) b

unfoldable pub shapes_ok : Tables → Bool
shapes_ok t =
    let g = whole final_width most_finals t.finals in
    let f = and (whole step_width most_steps t.steps) g in
    let e = and (whole role_fact_width most_role_facts t.role-facts) f in
    let d = and (whole concept_fact_width most_concept_facts t.concept-facts) e in
    let c = and (whole rule_width most_role_exclusions t.role-exclusions) d in
    let b = and (whole rule_width most_role_rules t.role-rules) c in
    let a = and (whole rule_width most_concept_exclusions t.concept-exclusions) b in
    and (whole rule_width most_concept_rules t.concept-rules) a

unfoldable pub areas_ok : Call → Bool
areas_ok c = let b = eqb (length c.spare) area_length in and (eqb (length c.area) area_length) b

unfoldable pub tables_ok : Call → Bool
tables_ok c = let b = areas_ok c in and (shapes_ok c.tables) b

abbrev pub name_declared : Counts → ConceptName → Bool
name_declared c A = ltb A.0 c.names

abbrev pub signed_declared : Counts → SignedRole → Bool
signed_declared c R = ltb R.0 (2 * c.roles)

abbrev pub individual_declared : Counts → Individual → Bool
individual_declared c a = ltb a.0 c.individuals

unfoldable pub concepts_declared : Counts → Concept × Concept → Bool
concepts_declared c r = let b = concept_declared c r.1 in and (concept_declared c r.0) b

unfoldable pub roles_declared : Counts → SignedRole × SignedRole → Bool
roles_declared c r = let b = signed_declared c r.1 in and (signed_declared c r.0) b

unfoldable pub concept_fact_declared : Counts → ConceptName × Individual → Bool
concept_fact_declared c f = let b = individual_declared c f.1 in and (name_declared c f.0) b

unfoldable pub role_fact_declared : Counts → RoleName × Individual × Individual → Bool
role_fact_declared c f =
    let b = individual_declared c f.2 in
    let a = and (individual_declared c f.1) b in
    and (ltb f.0.0 c.roles) a

abbrev pub letter_declared : Counts → Letter → Bool
letter_declared c (role S) = signed_declared c S
letter_declared c (test A) = name_declared c A

abbrev pub step_declared : Counts → Step → Bool
step_declared c (step s l t) = let b = state_declared c t in let a = and (letter_declared c l) b in and (state_declared c s) a

unfoldable pub numbers_declared : Collection → Bool
numbers_declared 𝓒 =
    let n = 𝓒.counts in
    let g = every 𝓒.finals (state_declared n) in
    let f = and (every 𝓒.steps (step_declared n)) g in
    let e = and (every 𝓒.role-facts (role_fact_declared n)) f in
    let d = and (every 𝓒.concept-facts (concept_fact_declared n)) e in
    let c = and (every 𝓒.role-exclusions (roles_declared n)) d in
    let b = and (every 𝓒.role-rules (roles_declared n)) c in
    let a = and (every 𝓒.concept-exclusions (concepts_declared n)) b in
    and (every 𝓒.concept-rules (concepts_declared n)) a

abbrev pub kind_ok : ℕ → Bool
kind_ok k = leb k 1

unfoldable pub numbers_ok : Counts → Tables → Bool
numbers_ok c t = let b = every (records 4 (λ t k. field 4 t 0 k) t.steps) kind_ok in and (numbers_declared (collection c t)) b

unfoldable pub ask_ok : Counts → Ask → Bool
ask_ok c (Pair a b) = let r = individual_declared c b in and (individual_declared c a) r
ask_ok c (From a) = individual_declared c a

-- the answer to a sound call: 2, 3, then 1 or 0
module _ (𝓒 : Collection) (ask : Ask) (allowance : ℕ) where
  unfoldable pub after_rounds : Answer
  after_rounds = pick (is_yes 𝓒 (lite_work 𝓒).1 ask) (Yes (lite_work 𝓒).0) (No (lite_work 𝓒).0)

  unfoldable pub after_clash : Answer
  after_clash = let r = after_rounds in pick (ltb allowance (lite_work 𝓒).0) (AllowanceSpent allowance) r

  unfoldable pub sound_answer : Answer
  sound_answer = let r = after_clash in pick (clash 𝓒) Contradiction r

-- the library's order, one test after another: 4, 5, 6, 8, and then the answer to a sound call
module _ (c : Call) where
  unfoldable pub after_numbers : Answer
  after_numbers = let r = sound_answer (collection_of c) c.ask c.allowance in pick (ask_ok c.counts c.ask) r BadAsk

  unfoldable pub after_tables : Answer
  after_tables = let r = after_numbers in pick (numbers_ok c.counts c.tables) r BadNumber

  unfoldable pub after_counts : Answer
  after_counts = let r = after_tables in pick (tables_ok c) r BadTable

  unfoldable pub answer : Answer
  answer = let r = after_counts in pick (counts_fit c.counts) r BadCount

  -- the area that holds the sheet after n rounds
  abbrev pub sheet_area : ℕ → List ℕ
  sheet_area n = image most_states c.counts (lite_sheet (collection_of c) n)

  -- both areas after an answer: the sheet and zeros after 0, 1 and 3; as they came after all else
  abbrev pub area_after : Answer → List ℕ
  area_after (No rounds) = sheet_area rounds
  area_after (Yes rounds) = sheet_area rounds
  area_after Contradiction = c.area
  area_after (AllowanceSpent allowance) = sheet_area allowance
  area_after BadCount = c.area
  area_after BadTable = c.area
  area_after BadNumber = c.area
  area_after BadAsk = c.area

  abbrev pub spare_after : Answer → List ℕ
  spare_after (No rounds) = zeros
  spare_after (Yes rounds) = zeros
  spare_after Contradiction = c.spare
  spare_after (AllowanceSpent allowance) = zeros
  spare_after BadCount = c.spare
  spare_after BadTable = c.spare
  spare_after BadNumber = c.spare
  spare_after BadAsk = c.spare
