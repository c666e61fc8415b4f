-- The sheet that a list is held against: without their facts tables pass the tests that they pass, have the same sheet, and are no
-- contradiction.
use Rattle.std.specs.Prelude.{ℕ, ◌⊎◌, ◌≡◌, refl, Bool, true, false, List, []}
use Rattle.std.proofs.Common.{inl, inr, subst, arith}
use Rattle.laws.specs.Member.{◌∈◌}
use Rattle.laws.specs.Numbers.{upto, numbered, numbered-out}
use Rattle.kinds.specs.declared.Counts.{Counts}
use Rattle.meaning.specs.Lent.{Tables, collection, records, concept_fact_width, role_fact_width, concept_fact, role_fact, ShapesOk, NumbersFit}
use Rattle.meaning.specs.Model.{Contradiction}
use Rattle.salvage.specs.Facts.{concept_facts_in, role_facts_in, with_facts}
use Rattle.salvage.proofs.FactLaws.{nothing_clashes}
use Rattle.expression.specs.Listed.{Listed}
use Rattle.reading.specs.declared.File.{File}
use Rattle.reading.specs.File.{lent_tables}
use Rattle.reading.specs.Tables.{Entry}
use Rattle.intake.specs.Held.{collection_held, IsLookedAt, sifted_tables, sheet_held}
use Rattle.intake.specs.Verdicts.{IsListing}

-- no record is read of an empty table
none-read : {A : Type 0} (width : ℕ) (read : List ℕ → ℕ → A) {x : A} → x ∈ records width read [] → ⊥
unfolding records
none-read width read m = let w = numbered-out (read []) _ m in omega (arith, w.1)

module _ (c : Counts) (t : Tables) where
  pub sifted-shapes : (b : Bool) → ShapesOk t → ShapesOk (sifted_tables b t)
  sifted-shapes false s = s
  sifted-shapes true s = record {
    concept-rules = s.concept-rules;
    concept-exclusions = s.concept-exclusions;
    role-rules = s.role-rules;
    role-exclusions = s.role-exclusions;
    concept-facts = record { unbroken = refl; few = omega arith };
    role-facts = record { unbroken = refl; few = omega arith };
    steps = s.steps;
    finals = s.finals;
  }

  pub sifted-numbers : (b : Bool) → NumbersFit c t → NumbersFit c (sifted_tables b t)
  sifted-numbers false f = f
  sifted-numbers true f =
      let d = f.declared in
      record {
        declared = record {
          concept-rules = d.concept-rules;
          concept-exclusions = d.concept-exclusions;
          role-rules = d.role-rules;
          role-exclusions = d.role-exclusions;
          concept-facts = λ x m. absurd (none-read concept_fact_width concept_fact m);
          role-facts = λ x m. absurd (none-read role_fact_width role_fact m);
          steps = d.steps;
          finals = d.finals;
        };
        step-kinds = f.step-kinds;
      }

  sifted-listing : (b : Bool) (list : List Entry) → IsListing (collection c (sifted_tables b t)) list → IsListing (collection c t) list
  sifted-listing false list l = l
  sifted-listing true list l = l

  no-facts : collection c (sifted_tables true t) ≡ with_facts (collection c t) []
  unfolding records numbered upto concept_facts_in role_facts_in
  no-facts = refl

  sifted-broken : (b : Bool) → Contradiction (collection c (sifted_tables b t)) → (b ≡ false) × Contradiction (collection c t)
  sifted-broken false h = (refl, h)
  sifted-broken true h = absurd (nothing_clashes (collection c t) (subst Contradiction no-facts h))

  sifted-sane : (b : Bool) → (Contradiction (collection c (sifted_tables b t)) → ⊥) → (b ≡ true) ⊎ (Contradiction (collection c t) → ⊥)
  sifted-sane false n = inr n
  sifted-sane true n = inl refl

module _ (file : File) (q : Listed) where
  -- THEOREM: its listing is that of the file,
  pub sheet-listing : (list : List Entry) → IsListing (sheet_held file q) list → IsListing (collection_held file q) list
  sheet-listing = sifted-listing file.counts (lent_tables file q) file.salvages

  -- THEOREM: where it is a contradiction the file is one, and chooses no salvage,
  pub sheet-broken : Contradiction (sheet_held file q) → (file.salvages ≡ false) × Contradiction (collection_held file q)
  sheet-broken = sifted-broken file.counts (lent_tables file q) file.salvages

  -- THEOREM: and where it is none the list is looked at
  pub sheet-sane : (Contradiction (sheet_held file q) → ⊥) → IsLookedAt file q
  sheet-sane = sifted-sane file.counts (lent_tables file q) file.salvages
