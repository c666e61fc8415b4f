-- Tables that differ only in deed numbers mean one collection, and a call with either has the outcome of the other.
use Rattle.std.specs.Prelude.{◌≡◌, refl, ◌↔◌, List, ◌∷◌, ℕ, zero, suc, ◌+◌, ◌/◌, ◌≤◌, ◌<◌, length, map}
use Rattle.std.proofs.Common.{sym, subst, ap₂, arith}
use Rattle.kinds.specs.declared.Counts.{Counts}
use Rattle.kinds.specs.declared.Answer.{Answer}
use Rattle.laws.specs.Numbers.{upto, numbered}
use Rattle.meaning.specs.Collection.{Collection}
use Rattle.meaning.specs.Lent.{Tables, Call, Whole, ShapesOk, collection, collection_of, records, field, concept_fact, concept_fact_width, role_fact, role_fact_width}
use Rattle.meaning.specs.Outcome.{Outcome}
use Rattle.meaning.specs.Demands.{Larger}
use Rattle.meaning.specs.SameSets.{SameSets}
use Rattle.meaning.specs.Deeds.{SameButLast, SameButDeeds, lent_with}
use Rattle.meaning.proofs.Repeated.{same-sets}

-- what is numbered alike is alike
numbered_same : {A : Type 0} (f g : ℕ → A) (n i : ℕ) → ((k : ℕ) → i ≤ k → k < i + n → f k ≡ g k) → map f (upto n i) ≡ map g (upto n i)
unfolding upto
numbered_same f g zero i h = refl
numbered_same f g (suc n) i h = ap₂ ◌∷◌ (h i (omega arith) (omega arith)) (numbered_same f g n (suc i) (λ k l m. h k (omega arith) (omega arith)))

records_same : {A : Type 0} (width : ℕ) (read : List ℕ → ℕ → A) (t u : List ℕ) → length t ≡ length u
    → ((k : ℕ) → k < length t / width → read t k ≡ read u k) → records width read t ≡ records width read u
unfolding records numbered
records_same width read t u e h = rw (← e) (numbered_same (read t) (read u) (length t / width) 0 (λ k l m. h k (omega arith)))

-- two facts that differ only in the deed number mean one thing
pub concept-fact-one : (t u : List ℕ) (k l : ℕ) → field concept_fact_width t 0 k ≡ field concept_fact_width u 0 l
    → field concept_fact_width t 1 k ≡ field concept_fact_width u 1 l → concept_fact t k ≡ concept_fact u l
concept-fact-one t u k l a b = rw (a, b) refl

pub role-fact-one : (t u : List ℕ) (k l : ℕ) → field role_fact_width t 0 k ≡ field role_fact_width u 0 l
    → field role_fact_width t 1 k ≡ field role_fact_width u 1 l → field role_fact_width t 2 k ≡ field role_fact_width u 2 l → role_fact t k ≡ role_fact u l
role-fact-one t u k l a b c = rw (a, b, c) refl

-- and so one collection is meant
pub one-collection : (c : Counts) (t u : Tables) → SameButDeeds t u → collection c t ≡ collection c u
one-collection c t u s =
    rw (s.concept-rules, s.concept-exclusions, s.role-rules, s.role-exclusions, concept-facts, role-facts, s.steps, s.finals) refl
  where
    f : SameButLast concept_fact_width t.concept-facts u.concept-facts
    f = s.concept-facts

    g : SameButLast role_fact_width t.role-facts u.role-facts
    g = s.role-facts

    concept-facts : records concept_fact_width concept_fact t.concept-facts ≡ records concept_fact_width concept_fact u.concept-facts
    concept-facts = records_same concept_fact_width concept_fact _ _ f.long (λ k l. concept-fact-one _ _ k k (f.fields 0 k (omega arith) l) (f.fields 1 k (omega arith) l))

    role-facts : records role_fact_width role_fact t.role-facts ≡ records role_fact_width role_fact u.role-facts
    role-facts =
        records_same role_fact_width role_fact _ _ g.long
        (λ k l. role-fact-one _ _ k k (g.fields 0 k (omega arith) l) (g.fields 1 k (omega arith) l) (g.fields 2 k (omega arith) l))

-- it works both ways
pub turned : {t u : Tables} → SameButDeeds t u → SameButDeeds u t
turned s = record {
  concept-rules = sym s.concept-rules;
  concept-exclusions = sym s.concept-exclusions;
  role-rules = sym s.role-rules;
  role-exclusions = sym s.role-exclusions;
  concept-facts = turned_last s.concept-facts;
  role-facts = turned_last s.role-facts;
  steps = sym s.steps;
  finals = sym s.finals;
}
  where
    turned_last : {width : ℕ} {t u : List ℕ} → SameButLast width t u → SameButLast width u t
    turned_last h = record { long = sym h.long; fields = λ j k i l. sym (h.fields j k i (rw h.long l)) }

-- test 5 says the same of both
pub shapes_kept : {t u : Tables} → SameButDeeds t u → ShapesOk t → ShapesOk u
shapes_kept s h = record {
  concept-rules = rw (← s.concept-rules) h.concept-rules;
  concept-exclusions = rw (← s.concept-exclusions) h.concept-exclusions;
  role-rules = rw (← s.role-rules) h.role-rules;
  role-exclusions = rw (← s.role-exclusions) h.role-exclusions;
  concept-facts = whole_kept s.concept-facts.long h.concept-facts;
  role-facts = whole_kept s.role-facts.long h.role-facts;
  steps = rw (← s.steps) h.steps;
  finals = rw (← s.finals) h.finals;
}
  where
    whole_kept : {width most : ℕ} {t u : List ℕ} → length t ≡ length u → Whole width most t → Whole width most u
    whole_kept e w = record { unbroken = rw (← e) w.unbroken; few = rw (← e) w.few }

larger_self : (𝓒 : Collection) → Larger 𝓒 𝓒
larger_self 𝓒 = record {
  start = refl;
  concept-rules = λ r m. m;
  concept-exclusions = λ r m. m;
  role-rules = λ r m. m;
  role-exclusions = λ r m. m;
  concept-facts = λ r m. m;
  role-facts = λ r m. m;
  steps = λ r m. m;
  finals = λ r m. m;
}

-- such tables have the same records
same_records : (c : Call) (t : Tables) → SameButDeeds c.tables t → SameSets c t
same_records c t s =
    let e = one-collection c.counts c.tables t s in
    record {
      more = subst (λ 𝓔. Larger (collection_of c) 𝓔) e (larger_self (collection_of c));
      fewer = subst (λ 𝓔. Larger 𝓔 (collection_of c)) e (larger_self (collection_of c));
      kinds = λ k. (λ m. rw (← s.steps) m, λ m. rw s.steps m);
      shapes = (shapes_kept s, shapes_kept (turned s));
    }

-- THEOREM: an outcome with the one is an outcome with the other
pub deeds-decide-nothing : (c : Call) (t : Tables) → SameButDeeds c.tables t → (r : Answer) (x y : List ℕ) → Outcome c r x y ↔ Outcome (lent_with c t) r x y
deeds-decide-nothing c t s r x y = (same-sets c t (same_records c t s), same-sets (lent_with c t) c.tables (same_records (lent_with c t) c.tables (turned s)))

-- THEOREM: growth compares facts without their deed numbers
pub growth-without-deeds : (c d : Counts) (t t' u u' : Tables) → SameButDeeds t t' → SameButDeeds u u'
    → Larger (collection c t) (collection d u) → Larger (collection c t') (collection d u')
growth-without-deeds c d t t' u u' s s' more =
    subst (λ 𝓔. Larger 𝓔 (collection d u')) (one-collection c t t' s) (subst (λ 𝓔. Larger (collection c t) 𝓔) (one-collection d u u' s') more)
