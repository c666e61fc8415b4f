-- The list of the base collection holds: the checker computes the marks that first stand in each round, and that two rounds are needed.
use Rattle.std.specs.Prelude.{◌≡◌, refl, Bool, true, not, List, [], ◌∷◌, map, ℕ, zero, suc, ◌≤◌, T, slice_index_or}
use Rattle.std.specs.Ordering.{is_lt}
use Rattle.std.specs.declared.cmp.Ordering.{Ordering}
use Rattle.std.specs.declared.cmp.Ordering.TheVariants.{Less, Equal, Greater}
use Rattle.std.specs.List.Sorted.{IsStrictlySortedBy}
use Rattle.std.proofs.Common.{arith, sym, subst}
use Rattle.std.proofs.Math.Dec.{T_not, not_T}
use mathlib.Core.List.Memᴰ
use Rattle.kinds.specs.declared.Ask.TheVariants.{From}
use Rattle.kinds.specs.declared.State.{State}
use Rattle.kinds.specs.declared.Concept.{Concept}
use Rattle.kinds.specs.Kinds.{individual, inverse, number_of, concept_of}
use Rattle.laws.specs.Member.{◌∈◌, map-in, map-out, all-in}
use Rattle.laws.specs.Search.{and, and_left, and_right, and_both, any, every, every-out, passed}
use Rattle.laws.specs.Same.{both}
use Rattle.laws.specs.Pairs.{pairs}
use Rattle.laws.specs.Numbers.{upto, numbered}
use Rattle.laws.specs.Select.{select, select_in, select-out}
use Rattle.laws.specs.Fixpoint.{memo, fixpoint, stays, new}
use Rattle.laws.specs.Chain.{via, compose, tab, closing}
use Rattle.theory.specs.Sheet.{Markable, Needed}
use Rattle.theory.specs.Listing.{FirstIn, FirstMarks, MarksByRound, Listing, mark_order, entries_of}
use Rattle.theory.proofs.SheetLaws.{mark-markable}
use Rattle.theory.proofs.ListingLaws.{first-zero, first-next, rounds-listing}
use Rattle.theory.proofs.Tests.{joins, hangs_to, hangs_from, hangs, round, places, spot_in, spot_out, table, work, after}
use Rattle.meaning.specs.Collection.{Collection, NumbersDeclared}
use Rattle.meaning.specs.Lent.{records, Call}
use Rattle.meaning.specs.Lite.{signed_roles, valid_concepts, declared_states, lite}
use Rattle.meaning.specs.Listing.{numbered_lite}
use Rattle.meaning.proofs.LiteTests.{role_base, role_le, concept_base, concept_le, lite_tests}
use Rattle.meaning.proofs.LiteSheet.{lite_work, lite-needed}
use Rattle.meaning.proofs.Calculate.{concepts_declared, roles_declared, concept_fact_declared, role_fact_declared, numbers_declared, numbers_ok}
use Rattle.meaning.proofs.CalculateLaws.{numbers-test}
use Rattle.worked.specs.BaseList.{base_tables, base_collection, base_list}
use Rattle.worked.proofs.SheetComputed.{Spots, spot_marked, marked-in, marked-out}

-- a list that rises, as a test
module _ {X : Type 0} (R : X → X → Ordering) where
  unfoldable rises : List X → Bool
  rises [] = true
  rises (x ∷ l) = let r = rises l in and (every l (λ y. is_lt (R x y))) r

  is-less : (o : Ordering) → T (is_lt o) → o ≡ Less
  is-less Less h = refl
  is-less Equal h = absurd h
  is-less Greater h = absurd h

  rises-out : (l : List X) → T (rises l) → IsStrictlySortedBy R l
  unfolding rises IsStrictlySortedBy
  rises-out [] h = tt
  rises-out (x ∷ l) h =
      let above = and_left (every l (λ y. is_lt (R x y))) (rises l) h in
      let rest = and_right (every l (λ y. is_lt (R x y))) (rises l) h in
      (all-in (λ y. R x y ≡ Less) l (λ y m. is-less (R x y) (every-out l (λ y. is_lt (R x y)) above m)), rises-out l rest)

abbrev Triple : Type 0
Triple = State × State × Concept

module _ (𝓒 : Collection) where
  abbrev flat : Spots 𝓒 → Triple
  flat p = (p.0.0, p.0.1, p.1)

  unfoldable fresh : ℕ → Spots 𝓒 → Bool
  fresh zero p = spot_marked 𝓒 0 p
  fresh (suc n) p = let old = not (spot_marked 𝓒 n p) in and (spot_marked 𝓒 (suc n) p) old

  -- the marks that first stand in round n, as they are computed
  unfoldable made : ℕ → List Triple
  made n = map flat (select (places (lite 𝓒) (lite_tests 𝓒)) (fresh n))

  module _ (ok : NumbersDeclared 𝓒) where
    fresh-in : (n : ℕ) (s t : State) (B : Concept) → FirstIn (numbered_lite 𝓒) n s t B → T (fresh n ((s, t), B))
    unfolding fresh
    fresh-in zero s t B f = marked-in 𝓒 ok 0 s t B f.stands
    fresh-in (suc n) s t B f =
        let old = spot_marked 𝓒 n ((s, t), B) in
        let p = mark-markable (lite 𝓒) (suc n) s t B f.stands in
        let none = not_T old (λ h. f.no_sooner n (omega arith) (marked-out 𝓒 ok n s t B p h)) in
        and_both (spot_marked 𝓒 (suc n) ((s, t), B)) (not old) (marked-in 𝓒 ok (suc n) s t B f.stands) none

    fresh-out : (n : ℕ) (s t : State) (B : Concept) → Markable (lite 𝓒) s t B → T (fresh n ((s, t), B)) → FirstIn (numbered_lite 𝓒) n s t B
    unfolding fresh
    fresh-out zero s t B p h = (first-zero (numbered_lite 𝓒) s t B).1 (marked-out 𝓒 ok 0 s t B p h)
    fresh-out (suc n) s t B p h =
        let now = spot_marked 𝓒 (suc n) ((s, t), B) in
        let old = spot_marked 𝓒 n ((s, t), B) in
        let none = T_not old (and_right now (not old) h) in
        (first-next (numbered_lite 𝓒) n s t B).1
        (record { then = marked-out 𝓒 ok (suc n) s t B p (and_left now (not old) h); before = λ k. none (marked-in 𝓒 ok n s t B k) })

    made-in : (n : ℕ) (s t : State) (B : Concept) → FirstIn (numbered_lite 𝓒) n s t B → (s, t, B) ∈ made n
    unfolding made
    made-in n s t B f =
        let i = spot_in (lite 𝓒) (lite_tests 𝓒) s t B (mark-markable (lite 𝓒) n s t B f.stands) in
        map-in flat (select_in (places (lite 𝓒) (lite_tests 𝓒)) (fresh n) {x = ((s, t), B)} i (fresh-in n s t B f))

    made-out : (n : ℕ) (s t : State) (B : Concept) → (s, t, B) ∈ made n → FirstIn (numbered_lite 𝓒) n s t B
    unfolding made
    made-out n s t B m =
        let w = map-out flat (select (places (lite 𝓒) (lite_tests 𝓒)) (fresh n)) m in
        let p = w.0 in
        let v = select-out (places (lite 𝓒) (lite_tests 𝓒)) (fresh n) w.1 in
        let f = fresh-out n p.0.0 p.0.1 p.1 (spot_out (lite 𝓒) (lite_tests 𝓒) p v.0) v.1 in
        subst (λ (x : Triple). FirstIn (numbered_lite 𝓒) n x.0 x.1 x.2) (sym w.2) f

abbrev order : Triple → Triple → Ordering
order = mark_order (numbered_lite base_collection)

abbrev rounds : List (List Triple)
rounds = made base_collection 0 ∷ made base_collection 1 ∷ made base_collection 2 ∷ []

-- what the checker computes of the base collection
record Computed : Type 0 where
  numbers : numbers_ok base_collection.counts base_tables ≡ true
  needed : (lite_work base_collection).0 ≡ 2
  rise : every rounds (rises order) ≡ true
  listed : entries_of (numbered_lite base_collection) rounds ≡ base_list

computed : Computed
unfolding base_list made fresh rises numbers_ok numbers_declared concepts_declared roles_declared concept_fact_declared role_fact_declared
    any every select upto numbered pairs memo fixpoint stays new via compose tab closing both records concept_of number_of inverse
    signed_roles valid_concepts declared_states role_base role_le concept_base concept_le
    joins hangs_to hangs_from hangs round places table work after
computed = record { numbers = refl; needed = refl; rise = refl; listed = refl }

-- a call that lends the base collection; that its numbers are declared says nothing of the ask
abbrev call : Call
call = record {
  counts = base_collection.counts;
  tables = base_tables;
  ask = From (individual 0);
  allowance = 0;
  area = [];
  spare = [];
}

declared : NumbersDeclared base_collection
declared = ((numbers-test call).0 computed.numbers).declared

needed : Needed (lite base_collection) 2
needed = rw computed.needed at (lite-needed base_collection declared)

first : (n : ℕ) → made base_collection n ∈ rounds → FirstMarks (numbered_lite base_collection) n (made base_collection n)
first n m = record {
  sorted = rises-out order (made base_collection n) (every-out rounds (rises order) (passed (every rounds (rises order)) computed.rise) m);
  are = λ s t B. (made-out base_collection declared n s t B, made-in base_collection declared n s t B);
}

by-round : MarksByRound (numbered_lite base_collection) 2 rounds
by-round = record { long = refl; each = each }
  where
    each : (k : ℕ) → k ≤ 2 → FirstMarks (numbered_lite base_collection) k (slice_index_or rounds k [])
    each zero h = first 0 (Memᴰ.head refl)
    each (suc zero) h = first 1 (Memᴰ.tail (Memᴰ.head refl))
    each (suc (suc zero)) h = first 2 (Memᴰ.tail (Memᴰ.tail (Memᴰ.head refl)))
    each (suc (suc (suc k))) h = absurd (omega arith)

-- THEOREM: the list is that of the base collection's closed sheet
pub base-list-holds : Listing (numbered_lite base_collection) base_list
base-list-holds = rw computed.listed at (rounds-listing (numbered_lite base_collection) 2 rounds needed by-round)
