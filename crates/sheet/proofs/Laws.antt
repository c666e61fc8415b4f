-- The laws of a round's loops: one number more, and what the last one leaves.
use Rattle.std.specs.Prelude.{◌≡◌, refl, ◌↔◌, ◌⊎◌, Bool, true, false, not, IsTrue, List, [], ℕ, zero, suc, ◌+◌, ◌*◌, ◌/◌, ◌%◌, ◌-◌, ◌^◌}
use Rattle.std.specs.Prelude.{◌<◌, ◌≤◌, length, get_or, set, replicate}
use Rattle.std.proofs.Common.{sym, subst, ap, ◌∙◌, inl, inr, ⊎_elim, arith, length-set, add-one}
use Rattle.std.proofs.Math.ListN.{get_or-eq_default}
use Rattle.std.proofs.Math.Decide.{ℕ_discrete, dec_lt}
use Rattle.std.specs.Int.{bit_at}
use Rattle.std.proofs.lemmas.Bool.{false≢true}
use Rattle.std.proofs.lemmas.List.{length-replicate}
use Rattle.laws.specs.Fill.{stored, filled_with}
use Rattle.laws.specs.Loops.{Witness, Extends, extends_below, add_first, add_same, add_more, add_all, witness_more, each_more}
use Rattle.kinds.specs.Kinds.{most_states, base}
use Rattle.sets.specs.Bits.{Has, IsSetOf, IsEmpty, IsUnion, IsMinus, IsIntersection, IsLowered, IsOnly, Inserts, TakesFirst, state_width}
use Rattle.sets.specs.Rows.{no_concepts, no_states}
use Rattle.sets.specs.Relations.{Relates, pair, At, states_at, concepts_at, relation_at, IsImage, Transposed}
use Rattle.sets.specs.declared.concepts.ConceptSet.{ConceptSet}
use Rattle.sets.specs.declared.states.StateSet.{StateSet}
use Rattle.sets.proofs.Laws.{members_none, none_has, past}
use Rattle.sets.proofs.Gathering.{low_start, Over, over_more, over_end}
use Rattle.rules.specs.declared.rows.Edge.{Edge}
use Rattle.rules.specs.declared.rows.Rows.{Rows}
use Rattle.rules.specs.Rows.{most_concepts, Gets, IsMarkable, edge}
use Rattle.rules.specs.Transitions.{GainsEach}
use Rattle.rules.proofs.MadeLaws.{gets_none, gets_same}
use Rattle.sheet.specs.Pairs.{Paired, HasSources, Blank, By, ByState, Put, PutTo, Drops, IsPair, AnyOf, AnyPair, size, total_from, total}
use Rattle.sheet.specs.declared.marks.Marks.{Marks}
use Rattle.sheet.specs.Finds.{Join, Right, Rights, JoinedFrom, Forgets, PutLoop, PutLoops, RowLoop, LoopsFrom, AllLoops, AreLoops}
use Rattle.sheet.specs.Finds.{Trip, TripsFrom, HasTrips, IsPart, AddsNothing, ThroughChild}
use Rattle.sheet.specs.Finds.{ThroughEdges, ThroughChildren, HasFrom, HasAll, NewAt, PutNew, NewFrom, AreNew, Own}

-- ---- rows that get marks

pub gets_more : (F : ℕ → ℕ → ℕ → Type 0) {D E : ℕ → Type 0} {i : ℕ} {l m n : List ConceptSet} → Extends D i E
    → Gets (By D F) l m → Gets (F i) m n → Gets (By E F) l n
gets_more F x a b = record { long = b.long ∙ a.long; at = λ q k. add_more x (a.at q k) (b.at q k) }

pub gets_all : (F : ℕ → ℕ → ℕ → Type 0) {D E : ℕ → Type 0} {l m : List ConceptSet} → ((i : ℕ) → D i ↔ E i) → Gets (By D F) l m
    → Gets (By E F) l m
gets_all F same a = record { long = a.long; at = λ q k. add_all same (a.at q k) }

-- one state more, and one member of a set more; all members
pub state_more : (F : ℕ → ℕ → ℕ → Type 0) (n : ℕ) {l m k : List ConceptSet} → Gets (By (λ i. i < n) F) l m → Gets (F n) m k
    → Gets (By (λ i. i < n + 1) F) l k
state_more F n a b = gets_more F (extends_below n) a b

pub member_more : (F : ℕ → ℕ → ℕ → Type 0) {w set rest i next : ℕ} {l m n : List ConceptSet} → Over set rest (λ D. Gets (By D F) l m)
    → TakesFirst w rest i next
    → Gets (F i) m n → Over set next (λ D. Gets (By D F) l n)
member_more F v t a = over_more v t (λ x b. gets_more F x b a)

pub members_end : (F : ℕ → ℕ → ℕ → Type 0) {set rest : ℕ} {l m : List ConceptSet} → Over set rest (λ D. Gets (By D F) l m) → IsEmpty rest
    → Gets (By (Has set) F) l m
members_end F v none = over_end v none (λ same a. gets_all F same a)

-- an empty row adds nothing
pub put_none : (i row : ℕ) (l : List ConceptSet) → IsEmpty row → Gets (Put i row) l l
put_none i row l none = gets_none _ l (λ q k p. none k p.has)

pub put_one : (l : List ConceptSet) (i : ℕ) (v : ConceptSet) (row : ℕ) → i < length l → IsUnion (get_or l i no_concepts).0 row v.0
    → Gets (Put i row) l (set l i v)
put_one l i v row h u = record {
  long = length-set l i v;
  at = stored (λ q x. (k : ℕ) → Has x.0 k ↔ (At l q k ⊎ Put i row q k)) l i v no_concepts h
      (λ k. (
        λ x. ⊎_elim (λ y. inl y) (λ y. inr (record { there = refl; has = y })) ((u.member k).0 x),
        ⊎_elim (λ y. (u.member k).1 (inl y)) (λ p. (u.member k).1 (inr p.has)),
      )) (λ q ne k. (λ x. inl x, ⊎_elim (λ x. x) (λ p. absurd (ne p.there))));
}

-- ---- rows and their pairs

module _ (rows : List ConceptSet) (pairs : List StateSet) (p : Paired rows pairs) (s t : ℕ) (hs : s < most_states) (ht : t < most_states)
    (v : StateSet)
    (long : s < length pairs) (i : Inserts state_width (states_at pairs s) t v.0) where
  keeps : (a b : ℕ) → Relates pairs a b → Relates (set pairs s v) a b
  keeps a b = stored (λ k x. Relates pairs k b → Has x.0 b) pairs s v no_states long (λ h. (i.member b).1 (inl h)) (λ k ne h. h) a

  pub paired_put : (row : ℕ) (new : List ConceptSet) → Gets (Put (pair s t) row) rows new → Paired new (set pairs s v)
  paired_put row new g = record {
    has = λ a b k ha hb x. ⊎_elim (λ old. keeps a b (p.has a b k ha hb old)) (own a b k ha hb) ((g.at (pair a b) k).0 x);
    low = λ a b. stored (λ k x. Has x.0 b → b < most_states) pairs s v no_states long
        (λ h. ⊎_elim (λ o. p.low s b o) (λ e. let q = e.0 in omega arith) ((i.member b).0 h)) (λ k ne h. p.low k b h) a;
  }
    where
      own : (a b k : ℕ) → a < most_states → b < most_states → Put (pair s t) row (pair a b) k → Relates (set pairs s v) a b
      own a b k ha hb x =
          let e = x.there in
          let q : a ≡ s = omega arith in
          let r : b ≡ t = omega arith in
          stored (λ k x. k ≡ s → Has x.0 b) pairs s v no_states long (λ z. (i.member b).1 (inr (r, omega arith)))
          (λ k ne z. absurd (ne z)) a q

-- the same for each t of a set
pub put_low : (row s t : ℕ) {l m : List ConceptSet} → t < most_states → Gets (Put (pair s t) row) l m → Gets (PutTo row s t) l m
put_low row s t h a =
    gets_same (λ q k p. record { low = h; there = p.there; has = p.has }) (λ q k p. record { there = p.there; has = p.has }) a

pub paired_all : (rows : List ConceptSet) (pairs : List StateSet) (s to row : ℕ) (v : StateSet) (new : List ConceptSet)
    → Paired rows pairs → s < most_states
    → ((t : ℕ) → Has to t → t < most_states) → s < length pairs → IsUnion (states_at pairs s) to v.0
    → Gets (By (Has to) (PutTo row s)) rows new
    → Paired new (set pairs s v)
paired_all rows pairs s to row v new p hs low long u g = record {
  has = λ a b k ha hb x. ⊎_elim (λ old. keeps a b (p.has a b k ha hb old)) (own a b k ha hb) ((g.at (pair a b) k).0 x);
  low = λ a b. stored (λ k x. Has x.0 b → b < most_states) pairs s v no_states long
      (λ h. ⊎_elim (λ o. p.low s b o) (λ o. low b o) ((u.member b).0 h))
      (λ k ne h. p.low k b h) a;
}
  where
    keeps : (a b : ℕ) → Relates pairs a b → Relates (set pairs s v) a b
    keeps a b = stored (λ k x. Relates pairs k b → Has x.0 b) pairs s v no_states long (λ h. (u.member b).1 (inl h)) (λ k ne h. h) a

    own : (a b k : ℕ) → a < most_states → b < most_states → By (Has to) (PutTo row s) (pair a b) k → Relates (set pairs s v) a b
    own a b k ha hb w =
        let t = w.number in
        let e = w.holds.there in
        let ht = w.holds.low in
        let q : a ≡ s = omega arith in
        let r : b ≡ t = omega arith in
        let h = w.of in
        stored (λ k x. k ≡ s → Has x.0 b) pairs s v no_states long (λ z. (u.member b).1 (inr (rw r h))) (λ k ne z. absurd (ne z)) a q

pub nowhere : (n s t : ℕ) → Relates (replicate n no_states) s t → ⊥
nowhere n s t x = none_has t (rw (filled_with no_states n s, states_at) at x)

pub blank_paired : (rows : List ConceptSet) (n : ℕ) → Blank rows → Paired rows (replicate n no_states)
blank_paired rows n b = record { has = λ s t k hs ht x. absurd (b.none (pair s t) k x); low = λ s t x. absurd (nowhere n s t x) }

pub blank_rows : (n : ℕ) → n ≡ most_states * most_states → Blank (replicate n no_concepts)
blank_rows n e = record {
  long = length-replicate n no_concepts ∙ e;
  none = λ q k x. none_has k
      (rw (filled_with no_concepts n q, concepts_at) at x);
}

-- ---- rows that drop marks

pub drops_more : (F : ℕ → ℕ → Type 0) {D E : ℕ → Type 0} {i : ℕ} {l m n : List ConceptSet} → Extends D i E
    → Drops (AnyOf D F) l m → Drops (F i) m n → Drops (AnyOf E F) l n
drops_more F x a b = record {
  long = b.long ∙ a.long;
  at = λ q k h. let y = b.at q k h in let z = a.at q k y.0 in (z.0, λ w. ⊎_elim z.1 y.1 ((witness_more x).0 w));
}

pub drops_all : (F : ℕ → ℕ → Type 0) {D E : ℕ → Type 0} {l m : List ConceptSet} → ((i : ℕ) → D i ↔ E i) → Drops (AnyOf D F) l m
    → Drops (AnyOf E F) l m
drops_all F same a = record {
  long = a.long;
  at = λ q k h. let z = a.at q k h in (z.0, λ w. z.1 (record { number = w.number; of = (same w.number).1 w.of; holds = w.holds }));
}

-- from members that are all states from which pairs lead
pub pairs_dropped : (pairs : List StateSet) {set rest : ℕ} {l m : List ConceptSet}
    → Over set rest (λ D. Drops (AnyOf D (λ s. AnyOf (Has (states_at pairs s)) (IsPair s))) l m) → IsEmpty rest
    → ((s t : ℕ) → Relates pairs s t → Has set s) → Drops (AnyPair pairs) l m
pairs_dropped pairs v none starts = over_end v none (λ same d. record {
  long = d.long;
  at = λ q k h. let z = d.at q k h in (
    z.0,
    λ w. z.1 (record {
      number = w.number;
      of = (same w.number).1 (starts w.number w.holds.number w.holds.of);
      holds = w.holds;
    }),
  );
})

pub drops_one : (s t : ℕ) (l : List ConceptSet) → pair s t < length l → Drops (IsPair s t) l (set l (pair s t) no_concepts)
drops_one s t l h = record {
  long = length-set l (pair s t) no_concepts;
  at = stored (λ q x. (k : ℕ) → Has x.0 k → At l q k × (q ≡ pair s t → ⊥)) l (pair s t) no_concepts no_concepts h
      (λ k x. absurd (none_has k x)) (λ q ne k x. (x, ne));
}

pub all_dropped : (rows new : List ConceptSet) (pairs : List StateSet) → Paired rows pairs → length rows ≡ most_states * most_states
    → Drops (AnyPair pairs) rows new → Blank new
all_dropped rows new pairs p long d = record {
  long = d.long ∙ long;
  none = λ q k x. let y = d.at q k x in side q k y.0 y.1
      (dec_lt q (most_states * most_states));
}
  where
    side : (q k : ℕ) → At rows q k → (AnyPair pairs q → ⊥) → Dec (q < most_states * most_states) → ⊥
    side q k x never (yes h) =
        let s = q / most_states in
        let t = q % most_states in
        let e : q ≡ pair s t = omega arith in
        never (record {
          number = s;
          of = omega arith;
          holds = record {
            number = t;
            of = p.has s t k (omega arith) (omega arith)
                (rw e at x);
            holds = e;
          };
        })
    side q k x never (no h) = none_has k (rw (get_or-eq_default rows no_concepts {n = q} (omega (arith, long)), concepts_at) at x)

-- ---- the states from which pairs lead are all that matter

pub covered : (F : ℕ → ℕ → ℕ → Type 0) (from : ℕ) {l m : List ConceptSet} → from < 2 ^ state_width
    → ((s q k : ℕ) → F s q k → Has from s) → Gets (By (Has from) F) l m → Gets (ByState F) l m
covered F from small has g =
    gets_same (λ q k w. record { number = w.number; of = past state_width from w.number small w.of; holds = w.holds })
    (λ q k w. record { number = w.number; of = has w.number q k w.holds; holds = w.holds }) g

pub loops_covered : (marks : Marks) (from : ℕ) {l m : List (List StateSet)} → from < 2 ^ state_width → HasSources from marks.pairs
    → GainsEach (λ R a b. Witness (Has from) (λ s. LoopsFrom marks s R a b)) l m → GainsEach (AllLoops marks) l m
loops_covered marks from small c g = record {
  long = g.long;
  at = λ R a b. add_same
      (λ w. record { number = w.number; of = past state_width from w.number small w.of; holds = w.holds })
      (λ w. record { number = w.number; of = c.has w.number w.holds.number w.holds.of; holds = w.holds })
      (g.at R a b);
}

pub concepts_covered : (marks : Marks) (from all : ℕ) → HasSources from marks.pairs → HasAll marks (Has from) all
    → HasAll marks (λ s. s < most_states) all
concepts_covered marks from all c h = record { has = λ s l. record { has = λ t m k a. (h.has s (c.has s t m)).has t m k a } }

-- a delta's row from a state, joined on either side, leads from it
pub joined_from : (delta sheet : Marks) (from s q k : ℕ) → HasSources from delta.pairs → JoinedFrom delta sheet s q k → Has from s
joined_from delta sheet from s q k c (inl w) = c.has s w.number w.of
joined_from delta sheet from s q k c (inr w) = c.has s w.holds.number w.holds.of

-- ---- where two marks meet

pub join_is : (rows : List ConceptSet) (row i j on : ℕ) {l m : List ConceptSet} → IsIntersection row (get_or rows j no_concepts).0 on
    → Gets (Put i on) l m → Gets (Join rows row i j) l m
join_is rows row i j on b a =
    gets_same (λ q k p. let w = (b.member k).0 p.has in record { there = p.there; has = w.0; goes = w.1 })
    (λ q k p. record { there = p.there; has = (b.member k).1 (p.has, p.goes) }) a

-- the states that lead to s are all by which the sheet goes on to the delta
pub rights_all : (delta sheet : Marks) (s only before : ℕ) {l m : List ConceptSet} → s < most_states → IsOnly state_width s only
    → before < 2 ^ state_width → IsImage (Transposed (Relates sheet.pairs)) only before
    → Gets (By (Has before) (Right delta sheet s)) l m → Gets (Rights delta sheet s) l m
rights_all delta sheet s only before hs o small b g =
    gets_same (λ q k w. record { number = w.number; of = past state_width before w.number small w.of; holds = w.holds })
    (λ q k w. record { number = w.number; of = leads w.number w.of w.holds.number k w.holds.holds.has; holds = w.holds }) g
  where
    leads : (r : ℕ) → r < most_states → (u k : ℕ) → At sheet.rows (pair r s) k → Has before r
    leads r hr u k x = (b.member r).1 (record { number = s; of = (o.member s).1 (refl, hs); holds = sheet.paired.has r s k hr hs x })

-- a test that is false
pub not_so : {P : Type 0} (b : Bool) → IsTrue b ↔ P → b ≡ false → P → ⊥
not_so b o e p = false≢true (sym e ∙ o.1 p)

-- ---- down to a child, and back up

-- relations of roles that get loops
pub each_gets_more : (F : ℕ → ℕ → ℕ → ℕ → Type 0) {D E : ℕ → Type 0} {i : ℕ} {l m n : List (List StateSet)} → Extends D i E
    → GainsEach (λ R a b. Witness D (λ j. F j R a b)) l m → GainsEach (F i) m n → GainsEach (λ R a b. Witness E (λ j. F j R a b)) l n
each_gets_more F x g h = record { long = h.long ∙ g.long; at = λ R a b. add_more x (g.at R a b) (h.at R a b) }

pub each_gets_all : (F : ℕ → ℕ → ℕ → ℕ → Type 0) {D E : ℕ → Type 0} {l m : List (List StateSet)} → ((i : ℕ) → D i ↔ E i)
    → GainsEach (λ R a b. Witness D (λ j. F j R a b)) l m → GainsEach (λ R a b. Witness E (λ j. F j R a b)) l m
each_gets_all F same g = record { long = g.long; at = λ R a b. add_all same (g.at R a b) }

pub row_loops : (rows : List ConceptSet) (s t roles : ℕ) {l m : List (List StateSet)}
    → IsLowered base (get_or rows (pair s t) no_concepts).0 roles
    → GainsEach (PutLoops (Has roles) s t) l m → GainsEach (RowLoop rows s t) l m
row_loops rows s t roles i g = record {
  long = g.long;
  at = λ R a b. add_same (λ w. to R a b w.number w.of w.holds)
      (λ p. record { number = R; of = (i.member R).1 p.marked; holds = record { low = p.low; of = refl; from = p.from; to = p.to } })
      (g.at R a b);
}
  where
    to : (R a b j : ℕ) → Has roles j → PutLoop s t j R a b → RowLoop rows s t R a b
    to R a b j h p = let e = p.of in record { low = rw e p.low; from = p.from; to = p.to; marked = rw e ((i.member j).0 h) }

-- relations of roles that are forgotten
pub forgets_more : {D E : ℕ → Type 0} {i : ℕ} {l m n : List (List StateSet)} → Extends D i E → Forgets D l m → Forgets (λ R. R ≡ i) m n
    → Forgets E l n
forgets_more x a b = record {
  long = b.long ∙ a.long;
  at = λ R s t h. let y = b.at R s t h in let z = a.at R s t y.0 in (z.0, λ e. ⊎_elim z.1 y.1 (x.only R e));
}

pub forgets_all : {D E : ℕ → Type 0} {l m : List (List StateSet)} → ((i : ℕ) → D i ↔ E i) → Forgets D l m → Forgets E l m
forgets_all same a = record { long = a.long; at = λ R s t h. let z = a.at R s t h in (z.0, λ e. z.1 ((same R).1 e)) }

pub forgets_one : (n i : ℕ) (l : List (List StateSet)) → i < length l → Forgets (λ R. R ≡ i) l (set l i (replicate n no_states))
forgets_one n i l h = record {
  long = length-set l i (replicate n no_states);
  at = stored (λ R r. (s t : ℕ) → Relates r s t → Relates (relation_at l R) s t × (R ≡ i → ⊥)) l i (replicate n no_states) [] h
      (λ s t x. absurd (nowhere n s t x)) (λ R ne s t x. (x, ne));
}

pub gathered : (marks : Marks) (roles : ℕ) (old cleared new : List (List StateSet)) → Forgets (Has roles) old cleared
    → GainsEach (AllLoops marks) cleared new → AreLoops marks roles new
gathered marks roles old cleared new f g = record { at = λ R a b h. add_first (λ x. (f.at R a b x).1 h) (g.at R a b) }

pub trips_are : (loops : List StateSet) (edge : Edge) (s half r : ℕ) → IsImage (Relates loops) (states_at edge.down s) half
    → IsImage (Relates edge.up) half r
    → IsSetOf (Trip loops edge s) r
trips_are loops edge s half r a b = record {
  member = λ t. (
    λ h. let w = (b.member t).0 h in let v = (a.member w.number).0 w.of in
        record { x = v.number; y = w.number; down = v.of; along = v.holds; up = w.holds },
    λ w. (b.member t).1
        (record { number = w.y; of = (a.member w.y).1 (record { number = w.x; of = w.down; holds = w.along }); holds = w.up }),
  );
}

pub leads_more : (relation : List StateSet) (n all x : ℕ) → ((s t : ℕ) → s < n → Relates relation s t → Has all t)
    → IsUnion all (states_at relation n) x
    → (s t : ℕ) → s < n + 1 → Relates relation s t → Has x t
leads_more relation n all x before u s t h r = elim (ℕ_discrete s n) [
  | yes e ↦ (u.member t).1 (inr (rw e at r))
  | no ne ↦ (u.member t).1 (inl (before s t (omega arith) r))
]

pub leads_end : (relation : List StateSet) (n all : ℕ) (b : Bool) → length relation ≤ n
    → ((s t : ℕ) → s < n → Relates relation s t → Has all t) → IsTrue b ↔ IsEmpty all
    → (s t : ℕ) → Relates relation s t → IsTrue (not b)
leads_end relation n all b h each o s t r = any b o
  where
    any : (b : Bool) → IsTrue b ↔ IsEmpty all → IsTrue (not b)
    any true o = absurd (o.0 refl t (each s t (low_start relation n s t h r) r))
    any false o = refl

-- an edge that leads nowhere, down or up
pub edge_none : (loops : List StateSet) (edge : Edge) (l : List ConceptSet) (d u : Bool) → not d ≡ true ⊎ not u ≡ true
    → ((s t : ℕ) → Relates edge.down s t → IsTrue d) → ((s t : ℕ) → Relates edge.up s t → IsTrue u)
    → Gets (ByState (TripsFrom loops edge)) l l
edge_none loops edge l d u none down up =
    gets_none _ l
    (λ q k w. let v = w.holds.of in ⊎_elim (λ e. never d e (down w.number v.x v.down))
    (λ e. never u e (up v.y w.holds.number v.up)) none)
  where
    never : (b : Bool) → not b ≡ true → IsTrue b → ⊥
    never true e t = false≢true e
    never false e t = false≢true t

-- ---- trips that were put last

-- what a set has, the other has, or it is left over
part_row : (small great row over x t : ℕ) → IsMinus small great row → IsUnion over row x → Has small t → Has great t ⊎ Has x t
part_row small great row over x t m u h = elim (ℕ_discrete (bit_at great t) 1) [
  | yes e ↦ inl e
  | no ne ↦ inr ((u.member t).1 (inr ((m.member t).1 (h, ne))))
]

pub part_more : (small great : List StateSet) (n row over x : ℕ)
    → ((s t : ℕ) → s < n → Relates small s t → Relates great s t ⊎ Has over t)
    → IsMinus (states_at small n) (states_at great n) row → IsUnion over row x
    → (s t : ℕ) → s < n + 1 → Relates small s t → Relates great s t ⊎ Has x t
part_more small great n row over x before m u s t h r = elim (ℕ_discrete s n) [
  | yes e ↦ rw (← e) at (part_row (states_at small n) (states_at great n) row over x t m u (rw e at r))
  | no ne ↦ ⊎_elim inl (λ o. inr ((u.member t).1 (inl o))) (before s t (omega arith) r)
]

pub part_end : (small great : List StateSet) (n over : ℕ) (b : Bool) → length small ≤ n
    → ((s t : ℕ) → s < n → Relates small s t → Relates great s t ⊎ Has over t) → IsTrue b ↔ IsEmpty over
    → IsTrue b → IsPart small great
part_end small great n over b h each o e = record {
  leads = λ s t r. ⊎_elim (λ x. x) (λ x. absurd (o.0 e t x)) (each s t (low_start small n s t h r) r);
}

pub trips_put : (loops : List StateSet) (edge : Edge) {l m : List ConceptSet} → Gets (ByState (TripsFrom loops edge)) l m
    → HasTrips loops edge m
trips_put loops edge g = record { has = λ q k w. (g.at q k).1 (inr w) }

-- what is there already is not missed
pub trips_done : (last_loops : List StateSet) (last : Edge) (loops : List StateSet) (edge : Edge) (l : List ConceptSet)
    → HasTrips last_loops last l
    → AddsNothing last_loops last loops edge → Gets (ByState (TripsFrom loops edge)) l l
trips_done last_loops last loops edge l has a = record {
  long = refl;
  at = λ q k. (λ x. inl x, ⊎_elim (λ x. x) (λ w. has.has q k (old q k w)));
}
  where
    old : (q k : ℕ) → ByState (TripsFrom loops edge) q k → ByState (TripsFrom last_loops last) q k
    old q k w =
        let v = w.holds in
        let t = v.of in
        let p = v.holds in
        let e = a.parents in
        record {
          number = w.number;
          of = w.of;
          holds = record {
            number = v.number;
            of = record {
              x = t.x;
              y = t.y;
              down = a.down.leads w.number t.x t.down;
              along = a.along.leads t.x t.y t.along;
              up = a.up.leads t.y v.number t.up;
            };
            holds = record { low = p.low; there = p.there; has = let h = p.has in rw e at h };
          };
        }

pub concepts_more : (rows : List ConceptSet) (s i all x : ℕ) {D E : ℕ → Type 0} → Extends D i E → HasFrom rows D s all
    → IsUnion all (get_or rows (pair s i) no_concepts).0 x
    → HasFrom rows E s x
concepts_more rows s i all x e h u = record {
  has = each_more e (λ t d k a. (u.member k).1 (inl (h.has t d k a)))
      (λ k a. (u.member k).1 (inr a));
}

pub from_more : (marks : Marks) (i all one x : ℕ) {D E : ℕ → Type 0} → Extends D i E → HasAll marks D all
    → HasFrom marks.rows (Has (states_at marks.pairs i)) i one
    → IsUnion all one x → HasAll marks E x
from_more marks i all one x e h f u = record {
  has = each_more e (λ s d. record { has = λ t m k a. (u.member k).1 (inl ((h.has s d).has t m k a)) })
      (record { has = λ t m k a. (u.member k).1 (inr (f.has t m k a)) });
}

-- the roles are those of all concepts of the delta, and each has its loops
pub children_all : (delta : Marks) (rows : Rows) (all roles : ℕ) (loops : List (List StateSet)) {l m : List ConceptSet}
    → HasAll delta (λ s. s < most_states) all
    → IsLowered base all roles → AreLoops delta roles loops → Gets (By (Has roles) (ThroughEdges loops rows)) l m
    → Gets (ThroughChildren delta.rows rows) l m
children_all delta rows all roles loops has i are g = gets_same to from g
  where
    trip : (R e q k : ℕ) → Has roles R → (w : ByState (TripsFrom (relation_at loops R) (edge rows e)) q k)
        → ThroughChild delta.rows (edge rows e) R q k
    trip R e q k h w =
        let v = w.holds in
        let t = v.of in
        let m = (are.at R t.x t.y h).0 t.along in
        let n = m.holds in
        let p = n.holds.from in
        let o = n.holds.to in
        let y = delta.paired.low m.number n.number n.of in
        let x = m.of in
        let marked = n.holds.marked in
        let e : pair t.x t.y ≡ pair m.number n.number = omega (arith, p, o) in
        record {
          s = w.number;
          x = t.x;
          y = t.y;
          t = v.number;
          s_low = w.of;
          x_low = omega (arith, p, x);
          y_low = omega (arith, o, y);
          role_low = n.holds.low;
          down = t.down;
          along = subst (λ q. At delta.rows q (base + R)) (sym e) marked;
          up = t.up;
          parents = v.holds;
        }

    to : (q k : ℕ) → By (Has roles) (ThroughEdges loops rows) q k → ThroughChildren delta.rows rows q k
    to q k w = let e = w.holds in (w.number, record { number = e.number; of = e.of; holds = trip w.number e.number q k w.of e.holds })

    back : (R e q k : ℕ) → Has roles R → ThroughChild delta.rows (edge rows e) R q k
        → ByState (TripsFrom (relation_at loops R) (edge rows e)) q k
    back R e q k h w = record {
      number = w.s;
      of = w.s_low;
      holds = record {
        number = w.t;
        of = record {
          x = w.x;
          y = w.y;
          down = w.down;
          along = (are.at R w.x w.y h).1 (record {
            number = w.x;
            of = w.x_low;
            holds = record {
              number = w.y;
              of = delta.paired.has w.x w.y (base + R) w.x_low w.y_low w.along;
              holds = record { low = w.role_low; from = refl; to = refl; marked = w.along };
            };
          });
          up = w.up;
        };
        holds = w.parents;
      };
    }

    from : (q k : ℕ) → ThroughChildren delta.rows rows q k → By (Has roles) (ThroughEdges loops rows) q k
    from q k (R, w) =
        let v = w.holds in
        let h = (i.member R).1
        ((has.has v.x v.x_low).has v.y (delta.paired.has v.x v.y (base + R) v.x_low v.y_low v.along) (base + R) v.along) in
        record { number = R; of = h; holds = record { number = w.number; of = w.of; holds = back R w.number q k h v } }

-- ---- what is new

pub new_is : (rows : Rows) (sheet candidates : List ConceptSet) (s t absent may r : ℕ)
    → IsMinus (get_or candidates (pair s t) no_concepts).0 (get_or sheet (pair s t) no_concepts).0 absent
    → IsMarkable rows s t may → IsIntersection absent may r → IsSetOf (NewAt rows sheet candidates s t) r
new_is rows sheet candidates s t absent may r a m i = record {
  member = λ k. (
    λ h. let w = (i.member k).0 h in let v = (a.member k).0 w.0 in record { candidate = v.0; absent = v.1; may = (m.member k).0 w.1 },
    λ w. (i.member k).1 ((a.member k).1 (w.candidate, w.absent), (m.member k).1 w.may),
  );
}

pub new_put : (rows : Rows) (sheet candidates : List ConceptSet) (s t row : ℕ) {l m : List ConceptSet}
    → IsSetOf (NewAt rows sheet candidates s t) row
    → Gets (Put (pair s t) row) l m → Gets (PutNew rows sheet candidates s t) l m
new_put rows sheet candidates s t row n a =
    gets_same (λ q k p. record { there = p.there; new = (n.member k).0 p.has })
    (λ q k p. record { there = p.there; has = (n.member k).1 p.new }) a

pub are_new : (rows : Rows) (sheet : List ConceptSet) (candidates : Marks) (blank new : List ConceptSet) → Blank blank
    → Gets (ByState (NewFrom rows sheet candidates)) blank new → AreNew rows sheet candidates.rows new
are_new rows sheet candidates blank new b g = record {
  long = g.long ∙ b.long;
  at = λ s t k hs ht. (
    λ x. ⊎_elim (λ y. absurd (b.none (pair s t) k y)) (λ w. to s t k hs ht w.number w.of w.holds.number w.holds.of w.holds.holds)
        ((g.at (pair s t) k).0 x),
    λ n. (g.at (pair s t) k).1 (inr (record {
      number = s;
      of = hs;
      holds = record { number = t; of = candidates.paired.has s t k hs ht n.candidate; holds = record { there = refl; new = n } };
    })),
  );
}
  where
    to : (s t k : ℕ) → s < most_states → t < most_states → (a : ℕ) → a < most_states → (b : ℕ) → Relates candidates.pairs a b
        → PutNew rows sheet candidates.rows a b (pair s t) k → NewAt rows sheet candidates.rows s t k
    to s t k hs ht a ha b r w =
        let e = w.there in
        let hb = candidates.paired.low a b r in
        let p : a ≡ s = omega arith in
        let q : b ≡ t = omega arith in
        let n = w.new in
        rw (p, q) at n

-- ---- round 0

pub own_is : (rows : Rows) (s row : ℕ) {l m : List ConceptSet} → IsMarkable rows s s row → Gets (Put (pair s s) row) l m
    → Gets (Own rows s) l m
own_is rows s row i a =
    gets_same (λ q k p. record { there = p.there; may = (i.member k).0 p.has })
    (λ q k p. record { there = p.there; has = (i.member k).1 p.may }) a

-- ---- how many

-- the members that are left are those of the set from n on
pub record Counted (rows : List ConceptSet) (s set rest many : ℕ) : Type 0 where
  pub n : ℕ
  pub within : n ≤ most_states
  pub left : (i : ℕ) → Has rest i ↔ (Has set i × n ≤ i)
  pub is : many ≡ total_from rows s n
  pub small : many ≤ most_concepts * n

pub counted_start : (rows : List ConceptSet) (s set : ℕ) → Counted rows s set set 0
unfolding total_from
counted_start rows s set = record {
  n = 0;
  within = omega arith;
  left = λ i. (λ h. (h, omega arith), λ h. h.0);
  is = refl;
  small = omega arith;
}

-- rows with no concept count for nothing
skip : (rows : List ConceptSet) (s n m : ℕ) → ((t : ℕ) → n ≤ t → t < n + m → size rows (pair s t) ≡ 0)
    → total_from rows s (n + m) ≡ total_from rows s n
unfolding total_from
skip rows s n zero h = let e : n + 0 ≡ n = omega arith in rw e refl
skip rows s n (suc m) h =
    let e : n + suc m ≡ suc (n + m) = omega arith in
    rw (e, h (n + m) (omega arith) (omega arith), skip rows s n m (λ t l g. h t l (omega arith))) (omega arith)

no_size : (rows : List ConceptSet) (q : ℕ) → ((k : ℕ) → At rows q k → ⊥) → size rows q ≡ 0
no_size rows q none = ap length (members_none most_concepts (get_or rows q no_concepts).0 none)

module _ (marks : Marks) (s : ℕ) (hs : s < most_states) where
  -- from n on up to m there are no pairs
  none_between : (n m : ℕ) → n ≤ m → m ≤ most_states → ((t : ℕ) → n ≤ t → t < m → Relates marks.pairs s t → ⊥)
      → total_from marks.rows s m ≡ total_from marks.rows s n
  none_between n m l h none =
      let e : m ≡ n + (m - n) = omega arith in
      rw e (skip marks.rows s n (m - n) (λ t a b. no_size marks.rows (pair s t)
      (λ k x. none t a (omega arith) (marks.paired.has s t k hs (omega arith) x))))

  pub counted_more : (rest t next many one : ℕ) → Counted marks.rows s (states_at marks.pairs s) rest many
      → TakesFirst state_width rest t next
      → one ≡ size marks.rows (pair s t) → one ≤ most_concepts → Counted marks.rows s (states_at marks.pairs s) next (many + one)
  unfolding total_from
  counted_more rest t next many one c f e small =
      let w = (c.left t).0 f.member in
      let low = marks.paired.low s t w.0 in
      record {
        n = t + 1;
        within = omega arith;
        left = λ i. (
          λ h. let v = (f.rest.member i).0 h in (((c.left i).0 v.0).0, above i v.0 v.1),
          λ h. (f.rest.member i).1
              ((c.left i).1 (h.0, (let a = w.1 in let b = h.1 in omega arith)), (λ q. let b = h.1 in absurd (omega arith))),
        );
        is = rw (add-one t, none_between c.n t w.1 (omega arith) (λ i a b r. f.least i b ((c.left i).1 (r, a))), ← c.is, ← e) refl;
        small = (let a = w.1 in let b = c.small in omega arith);
      }
    where
      above : (i : ℕ) → Has rest i → (i ≡ t → ⊥) → t + 1 ≤ i
      above i h ne = side (dec_lt i t)
        where
          side : Dec (i < t) → t + 1 ≤ i
          side (yes l) = absurd (f.least i l h)
          side (no g) = omega arith

  pub counted_end : (rest many : ℕ) → Counted marks.rows s (states_at marks.pairs s) rest many → IsEmpty rest
      → many ≡ total_from marks.rows s most_states
  counted_end rest many c none = c.is ∙ sym (none_between c.n most_states c.within (omega arith) (λ t a b r. none t ((c.left t).1 (r, a))))

pub all_none : (rows : List ConceptSet) → 0 ≡ total rows 0
unfolding total
all_none rows = refl

pub all_more : (rows : List ConceptSet) (s n m : ℕ) → n ≡ total rows s → m ≡ total_from rows s most_states → n + m ≡ total rows (s + 1)
unfolding total
all_more rows s n m e f = rw (add-one s, e, f) refl

-- rows with no mark
blank_from : (rows : List ConceptSet) → Blank rows → (s t : ℕ) → total_from rows s t ≡ 0
unfolding total_from
blank_from rows b s zero = refl
blank_from rows b s (suc t) = rw (no_size rows (pair s t) (b.none (pair s t)), blank_from rows b s t) refl

pub blank_many : (rows : List ConceptSet) → Blank rows → (s : ℕ) → 0 ≡ total rows s
unfolding total
blank_many rows b zero = refl
blank_many rows b (suc s) = rw (blank_from rows b s most_states, ← blank_many rows b s) refl

pub ruleset laws = (state_more, members_end, own_is)
