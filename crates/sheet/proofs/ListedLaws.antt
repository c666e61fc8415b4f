-- The marks of rows, as a list: it rises, has each mark once, and is as long as its marks are many; and what is still to come of it.
use Rattle.std.specs.Prelude.{◌≡◌, refl, false, ℕ, zero, suc, ◌+◌, ◌*◌, ◌<◌, List, [], ◌∷◌, ◌++◌, map, length, Option, Some, None}
use Rattle.std.specs.List.{range_with_len, flat_map}
use Rattle.std.specs.List.Sorted.{IsStrictlySortedBy}
use Rattle.std.specs.Iterator.{YieldsFirst, MakesProgress, item_count}
use Rattle.std.specs.Ordering.{nat_cmp}
use Rattle.std.specs.Cmp.{nat_cmp_is}
use Rattle.std.specs.Cmp.Lexicographic.{slice_cmp}
use Rattle.std.specs.declared.cmp.Ordering.{Ordering}
use Rattle.std.specs.declared.cmp.Ordering.TheVariants.{Less, Equal}
use Rattle.std.proofs.Common.{sym, subst, ap, ◌∙◌, inl, inr, arith}
use Rattle.std.proofs.lemmas.Bool.{false≢true}
use Rattle.std.proofs.lemmas.List.{length-map, append_assoc}
use Rattle.std.proofs.lemmas.List.Concat.{flat_map_single}
use Rattle.std.proofs.lemmas.List.Sums.{length-filter, count_by-le-length}
use Rattle.std.proofs.lemmas.List.FromFn.{length-range_with_len}
use Rattle.std.proofs.lemmas.List.Kept.{IsStrictlySortedBy-filter}
use Rattle.kinds.specs.Kinds.{most_states, state, number_of, concept_of}
use Rattle.kinds.specs.declared.Concept.{Concept}
use mathlib.Core.List.Memᴰ
use Rattle.laws.specs.Member.{◌∈◌, map-in, map-out}
use Rattle.sets.specs.Bits.{has, members, IsEmpty, TakesFirst}
use Rattle.sets.specs.Relations.{pair, At, Relates, concepts_at, states_at}
use Rattle.sets.specs.declared.concepts.ConceptSet.{ConceptSet}
use Rattle.sets.specs.declared.states.StateSet.{StateSet}
use Rattle.sets.proofs.Laws.{members_first, members_none, none_has}
use Rattle.rules.specs.Rows.{most_concepts}
use Rattle.rules.proofs.Members.{has_of, member_in, member_out}
use Rattle.sheet.specs.declared.marks.Marks.{Marks}
use Rattle.sheet.specs.Pairs.{HasSources, total_from, total}
use Rattle.sheet.specs.Listed.{mark_of, marks_at, marks_between, marks_to, marks_from, all_states, marks_in}
use Rattle.sheet.specs.ToCome.{led_to}
use Rattle.sheet.proofs.Flat.{range-in, range-out, range-rises, flat-rises, flat-in, flat-out, flat-filter, flat-same, flat-more}

abbrev Triple : Type 0
Triple = ℕ × ℕ × ℕ

-- the one of a list
only-out : {x y : Triple} → x ∈ (y ∷ []) → x ≡ y
only-out m = elim (Memᴰ.cases_cons m) [ inl e ↦ e | inr i ↦ absurd (Memᴰ.not-nil i) ]

-- ---- order

abbrev pub order : Triple → Triple → Ordering
order x y = slice_cmp nat_cmp (x.0 ∷ x.1 ∷ x.2 ∷ []) (y.0 ∷ y.1 ∷ y.2 ∷ [])

same_cmp : (n : ℕ) → nat_cmp n n ≡ Equal
same_cmp n = sym (nat_cmp_is n n Equal refl)

by_first : (x y : Triple) → nat_cmp x.0 y.0 ≡ Less → order x y ≡ Less
by_first x y h = rw h refl

by_second : (x y : Triple) → x.0 ≡ y.0 → nat_cmp x.1 y.1 ≡ Less → order x y ≡ Less
by_second x y e h = rw (e, same_cmp y.0, h) refl

by_third : (s t A B : ℕ) → nat_cmp A B ≡ Less → order (s, t, A) (s, t, B) ≡ Less
by_third s t A B h = rw (same_cmp s, same_cmp t, h) refl

members_rise : (w n : ℕ) → IsStrictlySortedBy nat_cmp (members w n)
unfolding members
members_rise w n = IsStrictlySortedBy-filter nat_cmp (has n) (range_with_len 0 w) (range-rises 0 w)

module _ (rows : List ConceptSet) where
  module _ (s : ℕ) where
    at_pair : (t : ℕ) (x : Triple) → x ∈ marks_between rows s t → (x.0 ≡ s) × (x.1 ≡ t)
    at_pair t x m =
        let e = (map-out (λ B. (s, t, B)) (members most_concepts (concepts_at rows (pair s t))) m).2 in
        (ap (λ (y : Triple). y.0) e, ap (λ (y : Triple). y.1) e)

    -- a row is a list for each of its concepts
    row_rises : (t : ℕ) → IsStrictlySortedBy order (marks_between rows s t)
    unfolding IsStrictlySortedBy
    row_rises t =
        rw (← flat_map_single {A = Triple} (λ B. (s, t, B)) (members most_concepts (concepts_at rows (pair s t))))
        (flat-rises (λ B. (s, t, B) ∷ []) order (λ B. (tt, tt)) apart _ (members_rise most_concepts _))
      where
        apart : (A B : ℕ) (x y : Triple) → nat_cmp A B ≡ Less → x ∈ ((s, t, A) ∷ []) → y ∈ ((s, t, B) ∷ []) → order x y ≡ Less
        apart A B x y h i j = rw (only-out i, only-out j) (by_third s t A B h)

    at_first : (to : List ℕ) (x : Triple) → x ∈ marks_to rows s to → x.0 ≡ s
    unfolding marks_to
    at_first to x m = let w = flat-out (marks_between rows s) to m in (at_pair w.0 x w.2).0

    from_rises : IsStrictlySortedBy order (marks_to rows s all_states)
    unfolding marks_to
    from_rises = flat-rises (marks_between rows s) order row_rises
        (λ i j x y h m n. let a = at_pair i x m in let b = at_pair j y n in by_second x y (a.0 ∙ sym b.0) (rw (a.1, b.1) h))
        all_states (range-rises 0 most_states)

  -- THEOREM: the marks of rows rise
  pub marks_rise : IsStrictlySortedBy order (marks_in rows)
  unfolding marks_in marks_from
  marks_rise = flat-rises (λ s. marks_to rows s all_states) order from_rises
      (λ i j x y h m n. by_first x y (rw (at_first i all_states x m, at_first j all_states y n) h))
      all_states (range-rises 0 most_states)

  -- THEOREM: the list has those that stand
  pub marks_has : (s t B : ℕ) → s < most_states → t < most_states → B < most_concepts → At rows (pair s t) B → (s, t, B) ∈ marks_in rows
  unfolding marks_in marks_from marks_to
  marks_has s t B hs ht hB a =
      flat-in (λ s. marks_to rows s all_states) (range-in 0 most_states s (omega arith) (omega arith))
      (flat-in (marks_between rows s) (range-in 0 most_states t (omega arith) (omega arith))
      (map-in (λ B. (s, t, B)) (member_in most_concepts (concepts_at rows (pair s t)) B hB a)))

  pub record StandsLow (s t B : ℕ) : Type 0 where
    pub from : s < most_states
    pub to : t < most_states
    pub of : B < most_concepts
    pub stands : At rows (pair s t) B

  -- THEOREM: and no other
  pub marks_are : (s t B : ℕ) → (s, t, B) ∈ marks_in rows → StandsLow s t B
  unfolding marks_in marks_from marks_to
  marks_are s t B m =
      let w = flat-out (λ s. marks_to rows s all_states) all_states m in
      let v = flat-out (marks_between rows w.0) all_states w.2 in
      let u = map-out (λ B. (w.0, v.0, B)) (members most_concepts (concepts_at rows (pair w.0 v.0))) v.2 in
      let a = member_out most_concepts (concepts_at rows (pair w.0 v.0)) u.0 u.1 in
      subst (λ (x : Triple). StandsLow x.0 x.1 x.2) (sym u.2) (record {
        from = (range-out 0 most_states w.0 w.1).1;
        to = (range-out 0 most_states v.0 v.1).1;
        of = a.0;
        stands = a.1;
      })

  -- ---- how many

  long_to : (s n : ℕ) → length (marks_to rows s (range_with_len 0 n)) ≡ total_from rows s n
  unfolding marks_to total_from
  long_to s zero = refl
  long_to s (suc n) = flat-more (marks_between rows s) n ∙ rw (long_to s n, length-map) refl

  long_from : (n : ℕ) → length (marks_from rows (λ s. all_states) (range_with_len 0 n)) ≡ total rows n
  unfolding marks_from total
  long_from zero = refl
  long_from (suc n) = flat-more (λ s. marks_to rows s all_states) n ∙ rw (long_from n, long_to n most_states) refl

  -- THEOREM: they are as many as are counted
  pub marks_many : total rows most_states ≡ length (marks_in rows)
  unfolding marks_in
  marks_many = sym (long_from most_states)

-- ---- what is still to come

-- a row with no concept; no state to go to
row_none : (s t row : ℕ) → IsEmpty row → marks_at s t row ≡ []
row_none s t row h = ap (λ l. map (λ B. (s, t, B)) l) (members_none most_concepts row h)

to_none : (rows : List ConceptSet) (s to : ℕ) → IsEmpty to → marks_to rows s (members most_states to) ≡ []
unfolding marks_to
to_none rows s to h = ap (λ l. flat_map (marks_between rows s) l) (members_none most_states to h)

module _ (marks : Marks) where
  -- to the states that pairs lead to, from one; from the states that pairs lead from
  led : (s : ℕ) → s < most_states → marks_to marks.rows s (led_to marks.pairs s) ≡ marks_to marks.rows s all_states
  unfolding marks_to members
  led s hs = flat-filter (marks_between marks.rows s) (has (states_at marks.pairs s)) 0 most_states (λ t l e. row_none s t _ (none t (omega arith) e))
    where
      none : (t : ℕ) → t < most_states → has (states_at marks.pairs s) t ≡ false → (k : ℕ) → At marks.rows (pair s t) k → ⊥
      none t l e k x = false≢true (sym e ∙ has_of _ t (marks.paired.has s t k hs l x))

  -- before any has come all marks are to come
  all_to_come : (from : ℕ) → HasSources from marks.pairs
      → marks_from marks.rows (led_to marks.pairs) (members most_states from) ≡ marks_in marks.rows
  unfolding marks_in marks_from members
  all_to_come from sources =
      flat-filter (λ s. marks_to marks.rows s (led_to marks.pairs s)) (has from) 0 most_states (λ s l e. to_none marks.rows s _ (none s e))
      ∙ flat-same (λ s. marks_to marks.rows s (led_to marks.pairs s)) (λ s. marks_to marks.rows s all_states) 0 most_states (λ s l. led s (omega arith))
    where
      none : (s : ℕ) → has from s ≡ false → (t : ℕ) → Relates marks.pairs s t → ⊥
      none s e t x = false≢true (sym e ∙ has_of from s (sources.has s t x))

module _ (rows : List ConceptSet) (pairs : List StateSet) where
  -- the marks of a row at (s, t), from s to the states of a set, and from the states of another
  abbrev pub left_of : ℕ → ℕ → ℕ → ℕ → ℕ → List Triple
  left_of s t row to from =
      marks_at s t row ++ (marks_to rows s (members most_states to) ++ marks_from rows (led_to pairs) (members most_states from))

  -- a mark of the row comes
  mark_next : (s t row k rest to from : ℕ) → TakesFirst most_concepts row k rest
      → left_of s t row to from ≡ (s, t, k) ∷ left_of s t rest to from
  mark_next s t row k rest to from f =
      ap (λ l. map (λ B. (s, t, B)) l ++ (marks_to rows s (members most_states to) ++ marks_from rows (led_to pairs) (members most_states from)))
      (members_first most_concepts row k rest f)

  -- as it is told
  pub mark_comes : (s t row rest to from : ℕ) (C : Concept) → TakesFirst most_concepts row (number_of C) rest → C ≡ concept_of (number_of C)
      → map mark_of (left_of s t row to from) ≡ (state s, state t, C) ∷ map mark_of (left_of s t rest to from)
  mark_comes s t row rest to from C f e =
      ap (map mark_of) (mark_next s t row (number_of C) rest to from f)
      ∙ ap (λ (D : Concept). (state s, state t, D) ∷ map mark_of (left_of s t rest to from)) (sym e)

  -- the row is at its end, and the next state to go to comes
  pub row_next : (s t row to u rest from : ℕ) → IsEmpty row → TakesFirst most_states to u rest
      → left_of s t row to from ≡ left_of s u (concepts_at rows (pair s u)) rest from
  unfolding marks_to
  row_next s t row to u rest from none f =
      rw (row_none s t row none, members_first most_states to u rest f)
      (append_assoc (marks_between rows s u) (flat_map (marks_between rows s) (members most_states rest))
      (marks_from rows (led_to pairs) (members most_states from)))

  -- both are at their end, and the next state to go from comes
  pub state_next : (s t row to from u rest : ℕ) → IsEmpty row → IsEmpty to → TakesFirst most_states from u rest
      → left_of s t row to from ≡ left_of u t row (states_at pairs u) rest
  unfolding marks_from
  state_next s t row to from u rest none end f =
      rw (row_none s t row none, row_none u t row none, to_none rows s to end, members_first most_states from u rest f) refl

  -- nothing is left
  pub none_next : (s t row to from : ℕ) → IsEmpty row → IsEmpty to → IsEmpty from → left_of s t row to from ≡ []
  unfolding marks_from
  none_next s t row to from none end last = rw (row_none s t row none, to_none rows s to end, members_none most_states from last) refl

-- THEOREM: before any has come all marks are to come
pub left_first : (marks : Marks) (from : ℕ) → HasSources from marks.pairs → left_of marks.rows marks.pairs 0 0 0 0 from ≡ marks_in marks.rows
left_first marks from sources =
    rw (row_none 0 0 0 (λ k. none_has k), to_none marks.rows 0 0 (λ t. none_has t)) (all_to_come marks from sources)

-- how many turns there are at most: for each state to go from, those that it may go to
abbrev pub turns_left : ℕ → ℕ → ℕ
turns_left from to = suc most_states * length (members most_states from) + length (members most_states to)

-- with each turn there are fewer states to go to; or fewer to go from, whatever those are then to go to
pub fewer_to : (from to t rest : ℕ) → TakesFirst most_states to t rest → turns_left from rest < turns_left from to
fewer_to from to t rest f = let e = ap length (members_first most_states to t rest f) in omega arith

pub fewer_from : (from to s rest new : ℕ) → TakesFirst most_states from s rest → turns_left rest new < turns_left from to
unfolding members
fewer_from from to s rest new f =
    let e = ap length (members_first most_states from s rest f) in
    let h = length-filter (has new) (range_with_len 0 most_states) in
    omega (arith, count_by-le-length (has new) (range_with_len 0 most_states), length-range_with_len 0 most_states)

-- an iterator that yields the first of a list at each call
pub yields_on : {A : Type 0} (can : List A → Type 0) → ((l : List A) → can l) → (l m : List A) (r : Option A)
    → YieldsFirst (λ (k : List A). k) l r m → MakesProgress can (item_count (λ (k : List A). k)) l r m
yields_on can may l m None y = record { on = λ f. tt; keeps = tt; rests = λ f. tt }
yields_on can may l m (Some x) y = record { on = λ f. (may m, tt, rw y (omega arith)); keeps = may m; rests = λ f. tt }
