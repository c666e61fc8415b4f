-- What is left of two tables, one fact after another.
use Rattle.std.specs.Prelude.{◌≡◌, refl, ℕ, suc, ◌+◌, ◌-◌, ◌/◌, ◌<◌, ◌≤◌, Option, None, Some, List, [], ◌∷◌, length}
use Rattle.std.proofs.Common.{arith}
use Rattle.laws.specs.Numbers.{upto, numbered}
use Rattle.meaning.specs.Lent.{concept_fact_width, role_fact_width, concept_fact, role_fact, records}
use Rattle.salvage.specs.declared.Typed.TheVariants as typed
use Rattle.tables.specs.declared.records.ConceptFact.{ConceptFact}
use Rattle.tables.specs.declared.records.RoleFact.{RoleFact}
use Rattle.tables.specs.Every.{GivesNext}
use Rattle.tables.specs.Records.{read_concept_fact, read_role_fact}
use Rattle.sift.specs.declared.entries.TypedFact.TheVariants.{Concept, Role}
use Rattle.sift.specs.declared.entries.FactsLeft.{FactsLeft}
use Rattle.sift.specs.Entries.{records_from, concepts_left, roles_left, GivesEntry}

module _ {A : Type 0} (width : ℕ) (read : List ℕ → ℕ → A) (t : List ℕ) (k : ℕ) where
  from_more : k < length t / width → records_from width read t k ≡ read t k ∷ records_from width read t (k + 1)
  unfolding upto
  from_more h =
      let e : length t / width - k ≡ suc (length t / width - (k + 1)) = omega arith in
      let f : suc k ≡ k + 1 = omega arith in
      rw (e, f) refl

  from_none : length t / width ≤ k → records_from width read t k ≡ []
  unfolding upto
  from_none h = let e : length t / width - k ≡ 0 = omega arith in rw e refl

-- at the start every record is left
pub from_first : {A : Type 0} (width : ℕ) (read : List ℕ → ℕ → A) (t : List ℕ) → records_from width read t 0 ≡ records width read t
unfolding records numbered
from_first width read t = let e : length t / width - 0 ≡ length t / width = omega arith in rw e refl

module _ (old new : FactsLeft) where
  abbrev StepsConcept : Option ConceptFact → Type 0
  StepsConcept r = GivesNext concept_fact_width read_concept_fact old.concepts.table.numbers.now old.concepts.next r new.concepts.next
      × (new.concepts.table.numbers ≡ old.concepts.table.numbers)

  abbrev StepsRole : Option RoleFact → Type 0
  StepsRole r = GivesNext role_fact_width read_role_fact old.roles.table.numbers.now old.roles.next r new.roles.next
      × (new.roles.table.numbers ≡ old.roles.table.numbers)

  pub gives_concept : (f : ConceptFact) → StepsConcept (Some f) → roles_left new ≡ roles_left old
      → GivesEntry typed.ConceptFact old (Some (Concept f)) new
  gives_concept f (s, e) same = record {
    goes = λ order.
        rw (same, e, s.is, s.after, from_more concept_fact_width concept_fact old.concepts.table.numbers.now old.concepts.next s.inside)
        refl;
  }

  pub gives_no_concept : StepsConcept None → roles_left new ≡ roles_left old → GivesEntry typed.ConceptFact old None new
  gives_no_concept (s, e) same = record {
    goes = λ order.
        rw (same, e, s.1, from_none concept_fact_width concept_fact old.concepts.table.numbers.now old.concepts.next s.0) refl;
  }

  pub gives_role : (f : RoleFact) → StepsRole (Some f) → concepts_left new ≡ concepts_left old
      → GivesEntry typed.RoleFact old (Some (Role f)) new
  gives_role f (s, e) same = record {
    goes = λ order.
        rw (same, e, s.is, s.after, from_more role_fact_width role_fact old.roles.table.numbers.now old.roles.next s.inside) refl;
  }

  pub gives_no_role : StepsRole None → concepts_left new ≡ concepts_left old → GivesEntry typed.RoleFact old None new
  gives_no_role (s, e) same = record {
    goes = λ order.
        rw (same, e, s.1, from_none role_fact_width role_fact old.roles.table.numbers.now old.roles.next s.0) refl;
  }
