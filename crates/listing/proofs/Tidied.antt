-- A file made ready for its copy passes the library's tests, and means what it meant.
use Rattle.std.specs.Prelude.{◌≡◌, List, ℕ, ◌≤◌, ◌/◌, None, length}
use Rattle.std.specs.Ordering.{nat_cmp}
use Rattle.std.specs.Cmp.Lexicographic.{slice_cmp}
use Rattle.std.proofs.lemmas.Cmp.{nat_list_cmp_total}
use Rattle.std.proofs.Common.{ap, ◌∙◌, subst, arith}
use Rattle.laws.specs.Distinct.{distinct-few}
use Rattle.laws.specs.Rises.{rises-distinct}
use Rattle.kinds.specs.Kinds.{CountsFit}
use Rattle.meaning.specs.Lent.{Tables, Whole, ShapesOk, NumbersFit}
use Rattle.meaning.specs.SameSets.{SameSets}
use Rattle.sorted.specs.Rows.{rows, IsTidied}
use Rattle.sorted.specs.Same.{SameTables}
use Rattle.sorted.proofs.Chunks.{length-chunks}
use Rattle.sorted.proofs.SetLaws.{same-to-the-library}
use Rattle.reading.specs.declared.File.{File}
use Rattle.reading.specs.File.{lent_tables, held_call}
use Rattle.reading.specs.Tidy.{TidiesTables}
use Rattle.fair_copy.specs.Ready.{IsMadeReady}
use Rattle.listing.specs.Held.{typed_tables, IsTypedOut}

module _ (w most : ℕ) {t u : List ℕ} (d : IsTidied w t u) where
  -- a table in order, each record once, has no more records
  fewer-rows : length (rows w u) ≤ length (rows w t)
  fewer-rows =
      distinct-few (rows w u) (rows w t) (rises-distinct (slice_cmp nat_cmp) nat_list_cmp_total (rows w u) d.tidied.rises)
      (λ r m. (d.tidied.same r).1 m)

  still-whole : Whole w most t → Whole w most u
  still-whole h = record {
    unbroken = d.whole;
    few = omega (arith, fewer-rows, h.few, length-chunks w (length u / w) u, length-chunks w (length t / w) t);
  }

module _ (old new : File) (r : IsMadeReady old new) where
  -- the tables as they were lent
  abbrev lent : Tables
  lent = lent_tables old r.spells.question

  -- each with the records that it had
  same-tables : SameTables lent (typed_tables new)
  same-tables = by (subst (λ (f : File). TidiesTables f new) r.spells.spelled r.tidies)
    where
      by : TidiesTables (record old { steps = r.spells.question.steps; finals = r.spells.question.finals; expression = None }) new
          → SameTables lent (typed_tables new)
      by t = record {
        concept-rules = t.concept_rules.tidied.same;
        concept-exclusions = t.concept_exclusions.tidied.same;
        role-rules = t.role_rules.tidied.same;
        role-exclusions = t.role_exclusions.tidied.same;
        concept-facts = t.concept_facts.tidied.same;
        role-facts = t.role_facts.tidied.same;
        steps = t.steps.tidied.same;
        finals = t.finals.tidied.same;
      }

  module _ (counts : CountsFit old.counts) (shapes : ShapesOk lent) (numbers : NumbersFit old.counts lent) where
    still-shaped : ShapesOk (typed_tables new)
    still-shaped = by (subst (λ (f : File). TidiesTables f new) r.spells.spelled r.tidies)
      where
        by : TidiesTables (record old { steps = r.spells.question.steps; finals = r.spells.question.finals; expression = None }) new
            → ShapesOk (typed_tables new)
        by t = record {
          concept-rules = still-whole _ _ t.concept_rules shapes.concept-rules;
          concept-exclusions = still-whole _ _ t.concept_exclusions shapes.concept-exclusions;
          role-rules = still-whole _ _ t.role_rules shapes.role-rules;
          role-exclusions = still-whole _ _ t.role_exclusions shapes.role-exclusions;
          concept-facts = still-whole _ _ t.concept_facts shapes.concept-facts;
          role-facts = still-whole _ _ t.role_facts shapes.role-facts;
          steps = still-whole _ _ t.steps shapes.steps;
          finals = still-whole _ _ t.finals shapes.finals;
        }

    -- THEOREM: so that the library takes it for the same collection
    pub sets : SameSets (held_call old r.spells.question 0) (typed_tables new)
    sets = same-to-the-library (held_call old r.spells.question 0) (typed_tables new) shapes still-shaped same-tables

    still-declared : NumbersFit old.counts (typed_tables new)
    still-declared =
        let few = sets.fewer in
        let all = numbers.declared in
        record {
          declared = record {
            concept-rules = λ x m. all.concept-rules x (few.concept-rules x m);
            concept-exclusions = λ x m. all.concept-exclusions x (few.concept-exclusions x m);
            role-rules = λ x m. all.role-rules x (few.role-rules x m);
            role-exclusions = λ x m. all.role-exclusions x (few.role-exclusions x m);
            concept-facts = λ x m. all.concept-facts x (few.concept-facts x m);
            role-facts = λ x m. all.role-facts x (few.role-facts x m);
            steps = λ x m. all.steps x (few.steps x m);
            finals = λ x m. all.finals x (few.finals x m);
          };
          step-kinds = λ k m. numbers.step-kinds k ((sets.kinds k).1 m);
        }

    pub same-counts : new.counts ≡ old.counts
    same-counts = r.tidies.counts ∙ ap (λ (f : File). f.counts) r.spells.spelled

    -- THEOREM: and none of its tests refuses it
    pub typed-out : IsTypedOut new
    typed-out = record {
      typed = r.tidies.expression ∙ ap (λ (f : File). f.expression) r.spells.spelled;
      counts = rw same-counts counts;
      shapes = still-shaped;
      numbers = rw same-counts still-declared;
    }
