-- What loops are made of: what individuals share, and what each concept gives besides.
use Rattle.std.specs.Prelude.{ℕ, List, [], ◌≡◌, refl, ◌↔◌, ◌⊎◌, ◌+◌, ◌*◌, ◌/◌, ◌%◌, ◌^◌, ◌<◌, ◌≤◌, length, replicate, set}
use Rattle.std.proofs.Common.{ap, ◌∙◌, inl, inr, ⊎_elim, arith, below_more, length-set}
use Rattle.std.proofs.Math.Decide.{dec_lt, ℕ_discrete}
use Rattle.std.proofs.Math.ListN.{get_or-eq_default}
use Rattle.std.proofs.lemmas.List.{length-replicate, get_or-replicate}
use Rattle.std.specs.Int.{bit_at}
use Rattle.kinds.specs.Kinds.{most_individuals, most_states}
use Rattle.laws.specs.Fill.{stored}
use Rattle.laws.specs.Loops.{Witness, Extends, put_more, add_none, add_more, add_all}
use Rattle.sets.specs.Bits.{Has, IsSetOf, IsUnion, Inserts, concept_width, state_width}
use Rattle.sets.specs.Rows.{no_states}
use Rattle.sets.specs.Relations.{states_at, concepts_at, relation_at, pair, Relates}
use Rattle.sets.specs.declared.states.StateSet.{StateSet}
use Rattle.sets.specs.declared.concepts.ConceptSet.{ConceptSet}
use Rattle.sets.proofs.Gathering.{no_row}
use Rattle.sets.proofs.Laws.{past}
use Rattle.walk.specs.declared.loops.ByConcept.{ByConcept}
use Rattle.walk.specs.Loops.{LoopTo, IsLoopRow}
use Rattle.walk.specs.LoopParts.{Within, AreShared, IsLeft, AreRelations, Puts, FromLeft, AreByConcept, Joined, Gives, IsRowOf}
use Rattle.walk.proofs.SetLaws.{none_has}
use Rattle.walk.proofs.LoopLaws.{row_empty}

-- the numbers below n, and n
pub below_extends : (n : ℕ) → Extends (λ i. i < n) n (λ i. i < n + 1)
below_extends n = record {
  keeps = λ i l. omega arith;
  own = omega arith;
  only = λ i l. elim (ℕ_discrete i n) [ yes e ↦ inr e | no ne ↦ inl (omega arith) ];
}

-- ---- a pair put at concept k

module _ (rows : List (List StateSet)) (k s t : ℕ) (x : StateSet) (ready : AreRelations rows) (hk : k < concept_width)
    (hs : s < most_states) (ht : t < most_states)
    (ins : Inserts state_width (states_at (relation_at rows k) s) t x.0) where
  abbrev new_row : List StateSet
  new_row = set (relation_at rows k) s x

  within : k < length rows
  within = omega (arith, ready.long)

  pub put_ready : AreRelations (set rows k new_row)
  put_ready = record {
    long = length-set rows k new_row ∙ ready.long;
    each =
        stored (λ B (row : List StateSet). B < concept_width → length row ≡ most_states) rows k new_row [] within
        (λ _. length-set (relation_at rows k) s x ∙ ready.each k hk) (λ B ne. ready.each B);
  }

  own : (u v : ℕ) → Relates new_row u v ↔ (Relates (relation_at rows k) u v ⊎ ((k ≡ k) × (u ≡ s) × (v ≡ t)))
  own =
      stored (λ u (y : StateSet). (v : ℕ) → Has y.0 v ↔ (Relates (relation_at rows k) u v ⊎ ((k ≡ k) × (u ≡ s) × (v ≡ t))))
      (relation_at rows k) s x no_states
      (omega (arith, ready.each k hk))
      (λ v. (
        λ p. ⊎_elim (λ q. inl q) (λ q. inr (refl, refl, q.0)) ((ins.member v).0 p),
        λ e. (ins.member v).1 (⊎_elim (λ q. inl q) (λ q. inr (q.2, omega arith)) e),
      ))
      (λ u ne v. (λ p. inl p, ⊎_elim (λ p. p) (λ q. absurd (ne q.1))))

  pub put_at : (B u v : ℕ) → Relates (relation_at (set rows k new_row) B) u v
      ↔ (Relates (relation_at rows B) u v ⊎ ((B ≡ k) × (u ≡ s) × (v ≡ t)))
  put_at =
      stored (λ B (row : List StateSet). (u v : ℕ)
      → Relates row u v ↔ (Relates (relation_at rows B) u v ⊎ ((B ≡ k) × (u ≡ s) × (v ≡ t)))) rows k new_row []
      within own (λ B ne u v. (λ p. inl p, ⊎_elim (λ p. p) (λ q. absurd (ne q.0))))

pub puts_none : {D : ℕ → Type 0} {s t : ℕ} {rows : List (List StateSet)} → ((i : ℕ) → D i → ⊥) → Puts D s t rows rows
puts_none none = record { at = λ B u v. (λ p. inl p, ⊎_elim (λ p. p) (λ q. absurd (none B q.0))) }

pub puts_more : {D F : ℕ → Type 0} {k s t : ℕ} {old now new : List (List StateSet)} → Extends D k F → Puts D s t old now
    → ((B u v : ℕ) → Relates (relation_at new B) u v ↔ (Relates (relation_at now B) u v ⊎ ((B ≡ k) × (u ≡ s) × (v ≡ t))))
    → Puts F s t old new
puts_more {D} {F} {k} {s} {t} {old} {now} {new} x p q = record { at = λ B u v. (to B u v, from B u v) }
  where
    to : (B u v : ℕ) → Relates (relation_at new B) u v → Relates (relation_at old B) u v ⊎ (F B × (u ≡ s) × (v ≡ t))
    to B u v r =
        ⊎_elim (λ a. ⊎_elim (λ b. inl b) (λ d. inr (x.keeps B d.0, d.1, d.2)) ((p.at B u v).0 a))
        (λ e. inr (rw e.0 x.own, e.1, e.2)) ((q B u v).0 r)

    put : (B u v : ℕ) → D B ⊎ (B ≡ k) → u ≡ s → v ≡ t → Relates (relation_at new B) u v
    put B u v (inl d) e f = (q B u v).1 (inl ((p.at B u v).1 (inr (d, e, f))))
    put B u v (inr b) e f = (q B u v).1 (inr (b, e, f))

    from : (B u v : ℕ) → Relates (relation_at old B) u v ⊎ (F B × (u ≡ s) × (v ≡ t)) → Relates (relation_at new B) u v
    from B u v (inl a) = (q B u v).1 (inl ((p.at B u v).1 (inl a)))
    from B u v (inr f) = put B u v (x.only B f.0) f.1 f.2

pub puts_as : {D F : ℕ → Type 0} {s t : ℕ} {old new : List (List StateSet)} → ((i : ℕ) → D i ↔ F i) → Puts D s t old new
    → Puts F s t old new
puts_as same p = record {
  at = λ B u v. (
    λ r. ⊎_elim (λ a. inl a) (λ d. inr ((same B).0 d.0, d.1, d.2)) ((p.at B u v).0 r),
    λ r. (p.at B u v).1 (⊎_elim (λ a. inl a) (λ f. inr ((same B).1 f.0, f.1, f.2)) r),
  );
}

-- ---- the relations of the concepts: none, and pair after pair

abbrev pub no_relation : List StateSet
no_relation = replicate most_states no_states

abbrev pub no_relations : List (List StateSet)
no_relations = replicate concept_width no_relation

none_in : (l : List StateSet) (s t : ℕ) → ((h : s < length l) → states_at l s ≡ 0) → Relates l s t → ⊥
none_in l s t z p = elim (dec_lt s (length l)) [
  | yes h ↦ none_has t (rw (z h) at p)
  | no h ↦ none_has t
      (rw (no_row l s (omega arith)) at p)
]

none_related : (s t : ℕ) → Relates no_relation s t → ⊥
none_related s t =
    none_in no_relation s t
    (λ h. ap (λ (x : StateSet). x.0) (get_or-replicate {A = StateSet} most_states s no_states no_states
    (omega (arith, h, length-replicate {A = StateSet} most_states no_states))))

none_put : (B s t : ℕ) → Relates (relation_at no_relations B) s t → ⊥
none_put B s t p = side (dec_lt B concept_width)
  where
    side : Dec (B < concept_width) → ⊥
    side (yes h) = none_related s t (rw (get_or-replicate {A = List StateSet} concept_width B no_relation [] h) at p)
    side (no h) =
        none_in (relation_at no_relations B) s t
        (λ l. let e : relation_at no_relations B ≡ [] = get_or-eq_default no_relations [] {n = B}
        (omega (arith, length-replicate {A = List StateSet} concept_width no_relation)) in
        let z : s < 0 = rw e at l in absurd (omega arith)) p

-- the first n pairs are put in
pub record PairsPut (sheet : List ConceptSet) (shared : List StateSet) (n : ℕ) (rows : List (List StateSet)) (set : ℕ) : Type 0 where
  pub low : n ≤ most_states * most_states
  pub ready : AreRelations rows
  pub at : (B s t : ℕ) → Relates (relation_at rows B) s t ↔ FromLeft sheet shared n B s t
  pub useful : (q B : ℕ) → q < n → IsLeft sheet shared q B → Has set B

module _ (sheet : List ConceptSet) (shared : List StateSet) where
  pub pairs_none : PairsPut sheet shared 0 no_relations 0
  pairs_none = record {
    low = omega arith;
    ready = record {
      long = length-replicate {A = List StateSet} concept_width no_relation;
      each = λ B h. rw (get_or-replicate {A = List StateSet} concept_width B no_relation [] h)
          (length-replicate {A = StateSet} most_states no_states);
    };
    at = λ B s t. (λ p. absurd (none_put B s t p), λ w. let l = w.of in absurd (omega arith));
    useful = λ q B h. absurd (omega arith);
  }

  pub pairs_more : (n left : ℕ) (rows new : List (List StateSet)) (useful more : ℕ) → PairsPut sheet shared n rows useful
      → n < most_states * most_states
      → IsSetOf (IsLeft sheet shared n) left → IsUnion useful left more → AreRelations new
      → Puts (Has left) (n / most_states) (n % most_states) rows new
      → PairsPut sheet shared (n + 1) new more
  pairs_more n left rows new useful more w h is u ready p = record {
    low = omega arith;
    ready = ready;
    at = λ B s t. put_more (below_extends n) (w.at B s t) (
      λ r. ⊎_elim (λ a. inl a) (λ d. inr ((is.member B).0 d.0, d.1, d.2)) ((p.at B s t).0 r),
      λ r. (p.at B s t).1 (⊎_elim (λ a. inl a) (λ d. inr ((is.member B).1 d.0, d.1, d.2)) r),
    );
    useful = λ q B l. below_more (λ q. IsLeft sheet shared q B → Has more B) n (λ q l i. (u.member B).1 (inl (w.useful q B l i)))
        (λ i. (u.member B).1 (inr ((is.member B).1 i))) q l;
  }

  pub pairs_all : (n : ℕ) (by : ByConcept) → PairsPut sheet shared n by.rows by.useful.0 → most_states * most_states ≤ n
      → AreByConcept sheet shared by
  pairs_all n by w h = let e : n ≡ most_states * most_states =
      omega (arith, w.low) in record { at = rw e at w.at; useful = rw e at w.useful }

-- ---- one row

module _ {shared : List StateSet} {by : ByConcept} where
  pub gives_none : {D : ℕ → Type 0} → length shared ≡ most_states → ((i : ℕ) → D i → ⊥) → Gives D shared by shared
  gives_none e none = record { long = e; at = λ s t h. add_none none }

  pub gives_more : {D F : ℕ → Type 0} {k : ℕ} {row new : List StateSet} → Extends D k F → Gives D shared by row
      → Joined row (relation_at by.rows k) new → Gives F shared by new
  gives_more x g j = record { long = j.long; at = λ s t h. add_more x (g.at s t h) ((j.at s h).member t) }

  pub gives_as : {D F : ℕ → Type 0} {row : List StateSet} → ((i : ℕ) → D i ↔ F i) → Gives D shared by row → Gives F shared by row
  gives_as same g = record { long = g.long; at = λ s t h. add_all same (g.at s t h) }

-- what is shared, and what useful concepts give, are the loops by all concepts
module _ (sheet : List ConceptSet) (m concepts : ℕ) (shared : List StateSet) (by : ByConcept) (row : List StateSet)
    (have : Within m concepts) (fits : concepts < 2 ^ concept_width)
    (base : IsLoopRow sheet m shared) (is : AreByConcept sheet shared by)
    (g : Gives (λ B. Has concepts B × Has by.useful.0 B) shared by row) where
  left : (s t B : ℕ) → s < most_states → Has concepts B → FromLeft sheet shared (most_states * most_states) B s t
      → LoopTo sheet concepts s t
  left s t B l p w =
      let e = w.holds.1 in
      let f = w.holds.2 in
      let q = w.of in
      let i : pair s t ≡ w.number = omega arith in
      record { state = omega arith; concept = B; low = past concept_width concepts B fits p; marked = rw i w.holds.0.marked; has = p }

  to : (s t : ℕ) → s < most_states → Relates row s t → LoopTo sheet concepts s t
  to s t l p =
      ⊎_elim (λ b. let o = (base.at s t l).0 b in
      record { state = o.state; concept = o.concept; low = o.low; marked = o.marked; has = have o.concept o.has })
      (λ w. left s t w.number l w.of.0 ((is.at w.number s t).0 w.holds)) ((g.at s t l).0 p)

  from : (s t : ℕ) → s < most_states → LoopTo sheet concepts s t → Relates row s t
  from s t l o = (g.at s t l).1 (side (ℕ_discrete (bit_at (states_at shared s) t) 1))
    where
      side : Dec (bit_at (states_at shared s) t ≡ 1)
          → Relates shared s t ⊎ Witness (λ B. Has concepts B × Has by.useful.0 B) (λ B. Relates (relation_at by.rows B) s t)
      side (yes p) = inl p
      side (no p) =
          let k = o.state in
          let es : pair s t / most_states ≡ s = omega arith in
          let et : pair s t % most_states ≡ t = omega arith in
          let low : pair s t < most_states * most_states = omega arith in
          let i : IsLeft sheet shared (pair s t) o.concept = record { marked = o.marked; free = λ r. p (rw (es, et) at r) } in
          inr (record {
            number = o.concept;
            of = (o.has, is.useful (pair s t) o.concept low i);
            holds = (is.at o.concept s t).1 (record { number = pair s t; of = low; holds = (i, omega arith, omega arith) });
          })

  pub given_row : IsLoopRow sheet concepts row
  given_row = record { long = g.long; at = λ s t l. (to s t l, from s t l) }

-- THEOREM: so made, the row of an individual has its loops
pub row_is : (individuals sheet : List ConceptSet) (m : ℕ) (shared : List StateSet) (by : ByConcept) (a : ℕ) (row : List StateSet)
    → AreShared individuals m
    → IsLoopRow sheet m shared → AreByConcept sheet shared by → a < most_individuals → IsRowOf shared by (concepts_at individuals a) row
    → IsLoopRow sheet (concepts_at individuals a) row
row_is individuals sheet m shared by a row have base is h (inl none) = rw none.1 (row_empty sheet (concepts_at individuals a) none.0)
row_is individuals sheet m shared by a row have base is h (inr some) =
    given_row sheet m (concepts_at individuals a) shared by row (have a h some.0) some.1 base is some.2
