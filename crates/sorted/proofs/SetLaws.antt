-- Collections that are the same as sets are the same to the library.
use Rattle.std.specs.Prelude.{◌≡◌, ◌↔◌, refl, List, ℕ, ◌<◌, ◌/◌, length, slice_index_or}
use Rattle.std.proofs.Common.{sym, ap, ◌∙◌, arith}
use Rattle.kinds.specs.declared.Counts.{Counts}
use Rattle.kinds.specs.declared.Answer.{Answer}
use Rattle.laws.specs.Member.{Within}
use Rattle.laws.specs.Numbers.{numbered-in, numbered-out}
use Rattle.meaning.specs.Lent.{Tables, Call, collection, field, records, concept_pair, role_pair, concept_fact, role_fact, step_at, final_at, step_kind}
use Rattle.meaning.specs.Lent.{rule_width, concept_fact_width, role_fact_width, step_width, final_width, ShapesOk}
use Rattle.meaning.specs.Demands.{Larger}
use Rattle.meaning.specs.Deeds.{lent_with}
use Rattle.meaning.specs.Outcome.{Outcome}
use Rattle.meaning.specs.SameSets.{SameSets}
use Rattle.meaning.proofs.Repeated.{same-sets}
use Rattle.meaning.proofs.DeedLaws.{concept-fact-one, role-fact-one}
use Rattle.sorted.specs.Rows.{SameRecords}
use Rattle.sorted.specs.Same.{SameTables}
use Rattle.sorted.proofs.Chunks.{row_at, chunk_in, chunk-out, field-is}
use Rattle.sorted.proofs.TidyLaws.{members-turned}

module _ {A : Type 0} (w : ℕ) (read : List ℕ → ℕ → A)
    (by_fields : (t u : List ℕ) (k l : ℕ) → ((j : ℕ) → j < w → field w t j k ≡ field w u j l) → read t k ≡ read u l) where
  -- a record is read by its fields alone: so where it stands in both tables it is read alike
  records-kept : (t u : List ℕ) → SameRecords w t u → Within (records w read t) (records w read u)
  unfolding records
  records-kept t u s x m =
      let a = numbered-out (read t) (length t / w) m in
      let b = chunk-out w (length u / w) u ((s (row_at w t a.0)).0 (chunk_in w (length t / w) t a.0 a.1)) in
      let same : read t a.0 ≡ read u b.0 =
      by_fields t u a.0 b.0 (λ j h. sym (field-is w t j a.0 h) ∙ ap (λ r. slice_index_or r j 0) b.2 ∙ field-is w u j b.0 h) in
      rw (a.2 ∙ same) (numbered-in (read u) (length u / w) b.0 b.1)

-- so each table's records are kept
pairs : (t u : List ℕ) → SameRecords rule_width t u → Within (records rule_width concept_pair t) (records rule_width concept_pair u)
pairs = records-kept rule_width concept_pair (λ t u k l h. rw (h 0 (omega arith), h 1 (omega arith)) refl)

roles : (t u : List ℕ) → SameRecords rule_width t u → Within (records rule_width role_pair t) (records rule_width role_pair u)
roles = records-kept rule_width role_pair (λ t u k l h. rw (h 0 (omega arith), h 1 (omega arith)) refl)

concept-facts : (t u : List ℕ) → SameRecords concept_fact_width t u
    → Within (records concept_fact_width concept_fact t) (records concept_fact_width concept_fact u)
concept-facts = records-kept concept_fact_width concept_fact (λ t u k l h. concept-fact-one t u k l (h 0 (omega arith)) (h 1 (omega arith)))

role-facts : (t u : List ℕ) → SameRecords role_fact_width t u
    → Within (records role_fact_width role_fact t) (records role_fact_width role_fact u)
role-facts =
    records-kept role_fact_width role_fact
    (λ t u k l h. role-fact-one t u k l (h 0 (omega arith)) (h 1 (omega arith)) (h 2 (omega arith)))

steps : (t u : List ℕ) → SameRecords step_width t u → Within (records step_width step_at t) (records step_width step_at u)
steps =
    records-kept step_width step_at
    (λ t u k l h. rw (h 0 (omega arith), h 1 (omega arith), h 2 (omega arith), h 3 (omega arith)) refl)

finals : (t u : List ℕ) → SameRecords final_width t u → Within (records final_width final_at t) (records final_width final_at u)
finals = records-kept final_width final_at (λ t u k l h. rw (h 0 (omega arith)) refl)

larger : (c : Counts) (t u : Tables) → SameTables t u → Larger (collection c t) (collection c u)
larger c t u s = record {
  start = refl;
  concept-rules = pairs _ _ s.concept-rules;
  concept-exclusions = pairs _ _ s.concept-exclusions;
  role-rules = roles _ _ s.role-rules;
  role-exclusions = roles _ _ s.role-exclusions;
  concept-facts = concept-facts _ _ s.concept-facts;
  role-facts = role-facts _ _ s.role-facts;
  steps = steps _ _ s.steps;
  finals = finals _ _ s.finals;
}

kinds-kept : (t u : List ℕ) → SameRecords step_width t u → Within (records step_width step_kind t) (records step_width step_kind u)
kinds-kept = records-kept step_width step_kind (λ t u k l h. h 0 (omega arith))

tables-turned : {t u : Tables} → SameTables t u → SameTables u t
tables-turned s = record {
  concept-rules = members-turned s.concept-rules;
  concept-exclusions = members-turned s.concept-exclusions;
  role-rules = members-turned s.role-rules;
  role-exclusions = members-turned s.role-exclusions;
  concept-facts = members-turned s.concept-facts;
  role-facts = members-turned s.role-facts;
  steps = members-turned s.steps;
  finals = members-turned s.finals;
}

-- THEOREM: tables with the same records are the same to the library, where test 5 refuses neither
pub same-to-the-library : (c : Call) (t : Tables) → ShapesOk c.tables → ShapesOk t → SameTables c.tables t → SameSets c t
same-to-the-library c t h k s = record {
  more = larger c.counts c.tables t s;
  fewer = larger c.counts t c.tables (tables-turned s);
  kinds = λ x. (kinds-kept _ _ s.steps x, kinds-kept _ _ (members-turned s.steps) x);
  shapes = (λ _. k, λ _. h);
}

-- THEOREM: and a call with either has the outcome of the other
pub answered-alike : (c : Call) (t : Tables) → ShapesOk c.tables → ShapesOk t → SameTables c.tables t
    → (r : Answer) (x y : List ℕ) → Outcome c r x y ↔ Outcome (lent_with c t) r x y
answered-alike c t h k s r x y = (
  same-sets c t (same-to-the-library c t h k s),
  same-sets (lent_with c t) c.tables (same-to-the-library (lent_with c t) c.tables k h (tables-turned s)),
)
