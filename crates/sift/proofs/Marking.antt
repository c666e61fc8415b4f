-- The tests of a call, and what its marks say.
use Rattle.std.specs.Prelude.{◌≡◌, refl, ◌↔◌, IsTrue, nat_eq, Bool, ℕ, ◌/◌, Result, Ok, Err, List, [], length, count_by, replicate}
use Rattle.std.proofs.Common.{sym, ◌∙◌, subst, arith, eqb-true, eq-eqb}
use Rattle.std.proofs.lemmas.Bool.{false≢true}
use mathlib.Core.List.Memᴰ
use Rattle.laws.specs.Numbers.{length-numbered, numbered-in}
use Rattle.meaning.specs.Collection.{Collection, WellFormed}
use Rattle.meaning.specs.Lent.{records, concept_fact_width, role_fact_width, concept_fact, role_fact}
use Rattle.meaning.proofs.DeedLaws.{one-collection}
use Rattle.salvage.specs.declared.Typed.{Typed}
use Rattle.salvage.specs.Facts.{is_concept_fact, is_role_fact, NamesAll, entries_of, IsSalvage}
use Rattle.salvage.specs.Laws.{Salvaging}
use Rattle.salvage.proofs.EntryLaws.{collection_declared, all_named}
use Rattle.salvage.proofs.SalvageLaws.{salvages_once}
use Rattle.salvage.proofs.SalvagedLaws.{sane, put_back, kept, marked_alike}
use Rattle.sets.specs.Rows.{no_concepts, no_roles}
use Rattle.tables.specs.declared.collection.Collection as code
use Rattle.tables.specs.declared.collection.Refusal.{Refusal}
use Rattle.tables.specs.declared.collection.Refusal.TheVariants.{BadCount, BadTable, BadNumber}
use Rattle.tables.specs.Lists.{lists}
use Rattle.tables.specs.Order.{InOrder}
use Rattle.sift.specs.declared.entries.FactsLeft.{FactsLeft}
use Rattle.sift.specs.declared.steps.HeldRows.{HeldRows}
use Rattle.sift.specs.Excludes.{meant}
use Rattle.sift.specs.Pairs.{HaveRows, ArePairs}
use Rattle.sift.specs.Salvage.{Passes, Marks, entries, AreSane, ArePutBack, AreWhole, AreAlike, MarksWhateverDeeds, Salvages}
use Rattle.sift.proofs.EntryLaws.{from_first}
use Rattle.sift.proofs.Holding.{holds_none}
use Rattle.sift.proofs.Sifting.{Sifting, left, collection_ready}

pub records_long : {A : Type 0} (width : ℕ) (read : List ℕ → ℕ → A) (t : List ℕ) → length (records width read t) ≡ length t / width
unfolding records
records_long width read t = length-numbered (read t) (length t / width)

-- the numbers of role facts have rows
pub rows_of : (c : code.Collection) → WellFormed (meant c) → HaveRows c.role_facts.numbers.now
unfolding records
rows_of c ok k l =
    let d = ok.numbers.role-facts (role_fact c.role_facts.numbers.now k)
    (numbered-in (role_fact c.role_facts.numbers.now) (length c.role_facts.numbers.now / role_fact_width) k l) in
    record {
      role = omega (arith, ok.counts.roles, d.0);
      first = omega (arith, ok.counts.individuals, d.1);
      second = omega (arith, ok.counts.individuals, d.2);
    }

-- before the first entry
pub sifting_start : (c : code.Collection) → WellFormed (meant c) → (pairs : List ℕ) → ArePairs c.role_facts.numbers.now pairs
    → (order : List Typed) (marks : List Bool) → length order ≡ length marks → (facts : FactsLeft)
    → facts.concepts.table.numbers.now ≡ c.concept_facts.numbers.now → facts.concepts.next ≡ 0
    → facts.roles.table.numbers.now ≡ c.role_facts.numbers.now → facts.roles.next ≡ 0
    → (held : HeldRows) (m n : ℕ) → held.concepts ≡ replicate m no_concepts → held.roles ≡ replicate n no_roles
    → Sifting (meant c) pairs order marks 0 facts held
sifting_start c ok pairs p order marks long facts ct cn rt rn held m n hc hr = record {
  long = long;
  before = [];
  declared = λ y i. absurd (Memᴰ.not-nil i);
  holds = holds_none (meant c) pairs m n held hc hr;
  ready = rw all (collection_ready c.counts (lists c) pairs ok p order);
  goes = λ rest t. rw all at t;
}
  where
    all : left (meant c) pairs order 0 facts ≡ entries_of (meant c) order
    all = rw (
      ct,
      cn,
      rt,
      rn,
      from_first concept_fact_width concept_fact c.concept_facts.numbers.now,
      from_first role_fact_width
          role_fact c.role_facts.numbers.now,
    ) refl

module _ (c : code.Collection) (order : List Typed) (marks : List Bool) (n : ℕ) (p : Passes c order n) (s : Marks c order marks) where
  pub formed : WellFormed (meant c)
  formed = record { counts = p.counts; numbers = p.numbers.declared }

  pub salvaging : Salvaging (meant c) (entries c order) marks
  salvaging = record { formed = formed; declared = collection_declared (meant c) formed order; salvage = s }

  pub are_sane : AreSane c order marks
  are_sane = sane (meant c) (entries c order) marks s

  pub are_put_back : ArePutBack c order marks
  are_put_back x i = put_back salvaging x i

  pub are_whole : AreWhole c marks
  are_whole none = kept salvaging (λ k. none (rw (all_named (meant c) order p.tables.fits.names) at k))

  pub are_alike : AreAlike c order marks
  are_alike i j e = marked_alike salvaging i j e

  pub whatever_deeds : MarksWhateverDeeds c order marks
  whatever_deeds t same = subst (λ (𝓒 : Collection). IsSalvage 𝓒 (entries_of 𝓒 order) marks) (one-collection c.counts (lists c) t same) s

-- THEOREM: two outcomes that satisfy the contract are equal
tests_once : (A B C : Type 0) (r q : Result (Unit {0}) Refusal) → InOrder A B C r → InOrder A B C q → r ≡ q
tests_once A B C (Ok u) (Ok v) x y = refl
tests_once A B C (Ok u) (Err e) x y = absurd (false≢true (y.ok.1 (x.ok.0 refl)))
tests_once A B C (Err BadCount) q x y = sym (y.bad_count.1 (x.bad_count.0 refl))
tests_once A B C (Err BadTable) q x y = sym (y.bad_table.1 (x.bad_table.0 refl))
tests_once A B C (Err BadNumber) q x y = sym (y.bad_number.1 (x.bad_number.0 refl))

marks_once : (c : code.Collection) (order : List Typed) (old : List Bool) (r : Result (Unit {0}) Refusal) (x y : List Bool)
    → Salvages c order old r x → Salvages c order old r y → x ≡ y
marks_once c order old (Ok u) x y s t = salvages_once _ s.salvage t.salvage
marks_once c order old (Err e) x y s t = s.refused ∙ sym t.refused

pub one_outcome : (c : code.Collection) (order : List Typed) (old : List Bool) (r q : Result (Unit {0}) Refusal) (x y : List Bool)
    → Salvages c order old r x → Salvages c order old q y → (r ≡ q) × (x ≡ y)
one_outcome c order old r q x y s t =
    let e = tests_once _ _ _ r q s.tests t.tests in
    (e, marks_once c order old q x y (rw e at s) t)

-- an order names each of two tables as often as it has facts
module _ (order : List Typed) (cs rs : List ℕ) where
  abbrev NamesBoth : Type 0
  NamesBoth = NamesAll order (records concept_fact_width concept_fact cs) (records role_fact_width role_fact rs)

  pub named_then : (n m : ℕ) → count_by is_concept_fact order ≡ length cs / concept_fact_width → n ≡ count_by is_role_fact order
      → m ≡ length rs / role_fact_width → IsTrue (nat_eq n m) ↔ NamesBoth
  named_then n m e f g = (
    λ t. record {
      concept-facts = e ∙ sym (records_long concept_fact_width concept_fact cs);
      role-facts = sym f ∙ eqb-true n m t ∙ g ∙ sym (records_long role_fact_width role_fact rs);
    },
    λ h. eq-eqb n m (f ∙ h.role-facts ∙ records_long role_fact_width role_fact rs ∙ sym g),
  )

  pub named_not : (n m : ℕ) → (n ≡ m → ⊥) → n ≡ count_by is_concept_fact order → m ≡ length cs / concept_fact_width
      → IsTrue (nat_eq n m) ↔ NamesBoth
  named_not n m d f g = (
    λ t. absurd (d (eqb-true n m t)),
    λ h. absurd (d (f ∙ h.concept-facts ∙ records_long concept_fact_width concept_fact cs ∙ sym g)),
  )
