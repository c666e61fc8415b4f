-- Of entries: the facts among them, and the entries that an order makes of a collection's tables.
use Rattle.std.specs.Prelude.{◌≡◌, refl, ◌+◌, Option, None, Some, List, [], ◌∷◌, ◌++◌, length, count_by}
use Rattle.std.proofs.Common.{ap, sym, cond, ⊎_elim, arith}
use Rattle.std.proofs.lemmas.List.Sums.{sum_by-cons}
use mathlib.Core.List.Memᴰ
use Rattle.kinds.specs.declared.ConceptName.{ConceptName}
use Rattle.kinds.specs.declared.RoleName.{RoleName}
use Rattle.kinds.specs.declared.Individual.{Individual}
use Rattle.kinds.specs.declared.Counts.{Counts}
use Rattle.laws.specs.Member.{◌∈◌, Within}
use Rattle.meaning.specs.Collection.{Collection, WellFormed, Each}
use Rattle.salvage.specs.declared.Typed.{Typed}
use Rattle.salvage.specs.declared.Typed.TheVariants.{ConceptFact, RoleFact, Other}
use Rattle.salvage.specs.Salvages.{◌◂◌}
use Rattle.salvage.specs.Facts.{Fact, of, between, concept_facts_in, role_facts_in, facts_among, FactDeclared, EntryDeclared, with_facts, entries_by, is_concept_fact, is_role_fact, NamesAll, entries_of}

pub among_in : (l : List (Option Fact)) {x : Fact} → Some x ∈ l → x ∈ facts_among l
among_in [] m = absurd (Memᴰ.not-nil m)
among_in (None ∷ l) {x} m = ⊎_elim (λ e. let f : None ≡ Some x = sym e in cc) (λ k. among_in l k) (Memᴰ.cases_cons m)
among_in (Some y ∷ l) {x} m = ⊎_elim (λ e. let f : x ≡ y = cc in Memᴰ.head f) (λ k. Memᴰ.tail (among_in l k)) (Memᴰ.cases_cons m)

pub among_out : (l : List (Option Fact)) {x : Fact} → x ∈ facts_among l → Some x ∈ l
among_out [] m = absurd (Memᴰ.not-nil m)
among_out (None ∷ l) m = Memᴰ.tail (among_out l m)
among_out (Some y ∷ l) {x} m = ⊎_elim (λ e. Memᴰ.head (ap (λ (z : Fact). Some z) e)) (λ k. Memᴰ.tail (among_out l k)) (Memᴰ.cases_cons m)

pub among_within : (l m : List (Option Fact)) → Within l m → Within (facts_among l) (facts_among m)
among_within l m w x i = among_in m (w (Some x) (among_out l i))

pub among_append : (l m : List (Option Fact)) → facts_among (l ++ m) ≡ facts_among l ++ facts_among m
among_append [] m = refl
among_append (None ∷ l) m = among_append l m
among_append (Some x ∷ l) m = ap (λ (k : List Fact). x ∷ k) (among_append l m)

-- one more at the end: a fact, or none
pub among_more : (l : List (Option Fact)) (x : Fact) → facts_among (l ◂ Some x) ≡ facts_among l ◂ x
among_more l x = among_append l (Some x ∷ [])

pub among_none : (l : List (Option Fact)) → facts_among (l ◂ None) ≡ facts_among l
among_none [] = refl
among_none (None ∷ l) = among_none l
among_none (Some x ∷ l) = ap (λ (k : List Fact). x ∷ k) (among_none l)

-- declared entries are declared facts
pub among_declared : (c : Counts) (l : List (Option Fact)) → Each l (EntryDeclared c) → Each (facts_among l) (FactDeclared c)
among_declared c l g x m = g (Some x) (among_out l m)

pub entries_declared : (c : Counts) (l : List (Option Fact)) → Each (facts_among l) (FactDeclared c) → Each l (EntryDeclared c)
entries_declared c l g None m = tt
entries_declared c l g (Some x) m = g x (among_in l m)

-- what an order names, one more at its front
concept_more : (t : Typed) (o : List Typed) → count_by is_concept_fact (t ∷ o) ≡ cond (is_concept_fact t) 1 0 + count_by is_concept_fact o
concept_more t o = sum_by-cons (λ y. cond (is_concept_fact y) 1 0) t o

role_more : (t : Typed) (o : List Typed) → count_by is_role_fact (t ∷ o) ≡ cond (is_role_fact t) 1 0 + count_by is_role_fact o
role_more t o = sum_by-cons (λ y. cond (is_role_fact y) 1 0) t o

-- its facts are those of the tables, and where it names all, they are all
pub role_facts_named : (order : List Typed) (cs : List (ConceptName × Individual)) (rs : List (RoleName × Individual × Individual))
    → count_by is_role_fact order ≡ length rs → role_facts_in (facts_among (entries_by order cs rs)) ≡ rs
unfolding role_facts_in
role_facts_named [] cs [] e = refl
role_facts_named [] cs (f ∷ rs) e = absurd (omega (arith, e))
role_facts_named (ConceptFact ∷ o) [] rs e = role_facts_named o [] rs (omega (arith, e, role_more ConceptFact o))
role_facts_named (ConceptFact ∷ o) (f ∷ cs) rs e = role_facts_named o cs rs (omega (arith, e, role_more ConceptFact o))
role_facts_named (RoleFact ∷ o) cs [] e = absurd (omega (arith, e, role_more RoleFact o))
role_facts_named (RoleFact ∷ o) cs (f ∷ rs) e =
    ap (λ (k : List (RoleName × Individual × Individual)). f ∷ k) (role_facts_named o cs rs (omega (arith, e, role_more RoleFact o)))
role_facts_named (Other ∷ o) cs rs e = role_facts_named o cs rs (omega (arith, e, role_more Other o))

pub concept_facts_named : (order : List Typed) (cs : List (ConceptName × Individual)) (rs : List (RoleName × Individual × Individual))
    → count_by is_concept_fact order ≡ length cs → concept_facts_in (facts_among (entries_by order cs rs)) ≡ cs
unfolding concept_facts_in
concept_facts_named [] [] rs e = refl
concept_facts_named [] (f ∷ cs) rs e = absurd (omega (arith, e))
concept_facts_named (ConceptFact ∷ o) [] rs e = absurd (omega (arith, e, concept_more ConceptFact o))
concept_facts_named (ConceptFact ∷ o) (f ∷ cs) rs e =
    ap (λ (k : List (ConceptName × Individual)). f ∷ k) (concept_facts_named o cs rs (omega (arith, e, concept_more ConceptFact o)))
concept_facts_named (RoleFact ∷ o) cs [] e = concept_facts_named o cs [] (omega (arith, e, concept_more RoleFact o))
concept_facts_named (RoleFact ∷ o) cs (f ∷ rs) e = concept_facts_named o cs rs (omega (arith, e, concept_more RoleFact o))
concept_facts_named (Other ∷ o) cs rs e = concept_facts_named o cs rs (omega (arith, e, concept_more Other o))

pub all_named : (𝓒 : Collection) (order : List Typed) → NamesAll order 𝓒.concept-facts 𝓒.role-facts
    → with_facts 𝓒 (facts_among (entries_of 𝓒 order)) ≡ 𝓒
all_named 𝓒 order n i = record {
  counts = 𝓒.counts;
  concept-rules = 𝓒.concept-rules;
  concept-exclusions = 𝓒.concept-exclusions;
  role-rules = 𝓒.role-rules;
  role-exclusions = 𝓒.role-exclusions;
  concept-facts = concept_facts_named order 𝓒.concept-facts 𝓒.role-facts n.concept-facts i;
  role-facts = role_facts_named order 𝓒.concept-facts 𝓒.role-facts n.role-facts i;
  steps = 𝓒.steps;
  finals = 𝓒.finals;
}

-- an order has an entry for each of its own
pub entries_each : (order : List Typed) (cs : List (ConceptName × Individual)) (rs : List (RoleName × Individual × Individual))
    → length (entries_by order cs rs) ≡ length order
entries_each [] cs rs = refl
entries_each (ConceptFact ∷ o) [] rs = omega (arith, entries_each o [] rs)
entries_each (ConceptFact ∷ o) (f ∷ cs) rs = omega (arith, entries_each o cs rs)
entries_each (RoleFact ∷ o) cs [] = omega (arith, entries_each o cs [])
entries_each (RoleFact ∷ o) cs (f ∷ rs) = omega (arith, entries_each o cs rs)
entries_each (Other ∷ o) cs rs = omega (arith, entries_each o cs rs)

-- the entries of a well-formed collection are declared, whatever the order
made_declared : (c : Counts) (order : List Typed) (cs : List (ConceptName × Individual)) (rs : List (RoleName × Individual × Individual))
    → Each cs (λ f. FactDeclared c (of f.0 f.1)) → Each rs (λ f. FactDeclared c (between f.0 f.1 f.2))
    → Each (facts_among (entries_by order cs rs)) (FactDeclared c)
made_declared c [] cs rs g h x m = absurd (Memᴰ.not-nil m)
made_declared c (ConceptFact ∷ o) [] rs g h x m = made_declared c o [] rs g h x m
made_declared c (ConceptFact ∷ o) (f ∷ cs) rs g h x m =
    ⊎_elim
    (λ e. rw e (g f (Memᴰ.head refl)))
    (λ k. made_declared c o cs rs (λ y i. g y (Memᴰ.tail i)) h x k)
    (Memᴰ.cases_cons m)
made_declared c (RoleFact ∷ o) cs [] g h x m = made_declared c o cs [] g h x m
made_declared c (RoleFact ∷ o) cs (f ∷ rs) g h x m =
    ⊎_elim
    (λ e. rw e (h f (Memᴰ.head refl)))
    (λ k. made_declared c o cs rs g (λ y i. h y (Memᴰ.tail i)) x k)
    (Memᴰ.cases_cons m)
made_declared c (Other ∷ o) cs rs g h x m = made_declared c o cs rs g h x m

pub collection_declared : (𝓒 : Collection) → WellFormed 𝓒 → (order : List Typed) → Each (entries_of 𝓒 order) (EntryDeclared 𝓒.counts)
collection_declared 𝓒 ok order =
    entries_declared 𝓒.counts (entries_of 𝓒 order)
    (made_declared 𝓒.counts order 𝓒.concept-facts 𝓒.role-facts ok.numbers.concept-facts ok.numbers.role-facts)
