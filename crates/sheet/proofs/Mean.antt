-- What the sheet of the rows means: with rows that say what a collection says, rounds, ends and areas are the collection's.
use Rattle.std.specs.Prelude.{◌≡◌, refl, ◌<◌, ◌≤◌, ℕ, suc, List, map}
use Rattle.std.proofs.Common.{sym, subst, ap, ◌∙◌, arith}
use Rattle.std.proofs.lemmas.List.{length-map}
use Rattle.std.proofs.Math.Decide.{dec_lt}
use Rattle.kinds.specs.declared.State.{State}
use Rattle.kinds.specs.declared.Concept.{Concept}
use Rattle.kinds.specs.Kinds.{state, number_of, concept_of, number-concept, concept-number, CountsFit}
use Rattle.laws.specs.Member.{◌∈◌, map-in, map-out}
use Rattle.laws.specs.Distinct.{distinct-map}
use Rattle.laws.specs.Rises.{rises-map}
use Rattle.laws.specs.Rounds.{least-same}
use Rattle.meaning.specs.Collection.{Collection}
use Rattle.theory.specs.Kind.{Kind}
use Rattle.meaning.specs.Lite.{lite}
use Rattle.theory.specs.Sheet.{Mark, Unchanged, Needed}
use Rattle.theory.specs.Marks.{Added, Adds}
use Rattle.theory.specs.Listing.{FirstIn, mark_order, FirstMarks}
use Rattle.meaning.specs.Listing.{numbered_lite}
use Rattle.meaning.specs.Layout as layout
use Rattle.meaning.proofs.Declared.{concept-out}
use Rattle.theory.proofs.SheetLaws.{mark-markable}
use Rattle.rules.specs.declared.rows.Rows.{Rows}
use Rattle.rules.specs.Rows.{kind_of}
use Rattle.rules.specs.RowsOf.{RowsOf}
use Rattle.rules.proofs.Same.{mark_to, mark_from}
use Rattle.sheet.specs.Areas.{IsPlaceOf}
use Rattle.sheet.specs.Listed.{mark_of}
use Rattle.sheet.specs.Telling.{numbered}
use Rattle.sheet.specs.Meant.{NeededMeans, AreaMeans, CountsMean, MarksMean}

module _ (𝓒 : Collection) (fit : CountsFit 𝓒.counts) (rows : Rows) (r : RowsOf 𝓒 rows) where
  abbrev K : Kind
  K = kind_of rows

  abbrev L : Kind
  L = lite 𝓒

  -- a mark of the collection's sheet is one of the rows'
  mark_back : (n : ℕ) (s t : State) (B : Concept) → Mark L n s t B → Mark K n s.0 t.0 (number_of B)
  mark_back n s t B m =
      let c = concept-number 𝓒.counts fit.names B (concept-out 𝓒.counts B (mark-markable L n s t B m).of) in
      mark_from 𝓒 rows r n s.0 t.0 (number_of B) (rw c m)

  pub unchanged_to : (n : ℕ) → Unchanged K n → Unchanged L n
  unchanged_to n still s t B m =
      let c = concept-number 𝓒.counts fit.names B (concept-out 𝓒.counts B (mark-markable L (suc n) s t B m).of) in
      let x = mark_to 𝓒 rows r n s.0 t.0 (number_of B) (still s.0 t.0 (number_of B) (mark_back (suc n) s t B m)) in
      rw c at x

  pub unchanged_from : (n : ℕ) → Unchanged L n → Unchanged K n
  unchanged_from n still s t B m = mark_from 𝓒 rows r n s t B (still (state s) (state t) (concept_of B) (mark_to 𝓒 rows r (suc n) s t B m))

  -- THEOREM: one more round changes neither, or both: the rounds needed are the same
  pub same_needed : NeededMeans 𝓒 rows
  same_needed n = (
    least-same (Unchanged K) (Unchanged L) unchanged_to unchanged_from n,
    least-same (Unchanged L) (Unchanged K) unchanged_from unchanged_to n,
  )

  -- THEOREM: where no round of the allowance leaves the sheet as it is, more are needed
  pub needs_more : (allowance n : ℕ) → ((m : ℕ) → m ≤ allowance → Unchanged K m → ⊥) → Needed L n → allowance < n
  needs_more allowance n none h = side (dec_lt allowance n)
    where
      side : Dec (allowance < n) → allowance < n
      side (yes l) = l
      side (no g) = absurd (none n (omega arith) (unchanged_from n h.holds))

  -- THEOREM: and an area that has the rows' marks has the collection's sheet
  pub same_lays : AreaMeans 𝓒 rows
  same_lays n area l = record { long = l.long; bytes = l.bytes; marks = λ p. (λ e. to p ((l.marks p).0 e), λ w. (l.marks p).1 (from p w)) }
    where
      to : (p : ℕ) → IsPlaceOf (Mark K n) p → layout.IsPlaceOf (Mark L n) p
      to p (s, t, B, m, e) =
          let b = number-concept B in
          (state s, state t, concept_of B, mark_to 𝓒 rows r n s t B m, rw b (omega (arith, e)))

      from : (p : ℕ) → layout.IsPlaceOf (Mark L n) p → IsPlaceOf (Mark K n) p
      from p (s, t, B, m, e) = (s.0, t.0, number_of B, mark_back n s t B m, omega (arith, e))

  -- a mark of the rows, as one of the collection
  abbrev of_rows : ℕ × ℕ × ℕ → State × State × Concept
  of_rows m = (state m.0, state m.1, concept_of m.2)

  abbrev back : State × State × Concept → ℕ × ℕ × ℕ
  back m = (m.0.0, m.1.0, number_of m.2)

  same_back : (p q : ℕ × ℕ × ℕ) → of_rows p ≡ of_rows q → p ≡ q
  same_back (s, t, B) (s₁, t₁, B₁) e =
      let a = ap (λ (x : ℕ × ℕ × ℕ). x.2) (ap back e) in
      let g : B ≡ B₁ = sym (number-concept B) ∙ a ∙ number-concept B₁ in
      rw (ap (λ (x : ℕ × ℕ × ℕ). x.0) (ap back e), ap (λ (x : ℕ × ℕ × ℕ). x.1) (ap back e), g) refl

  added_to : (n s t B : ℕ) → Added K n s t B → Added L n (state s) (state t) (concept_of B)
  added_to n s t B a = record { then = mark_to 𝓒 rows r (suc n) s t B a.then; before = λ m. a.before (mark_from 𝓒 rows r n s t B m) }

  added_back : (n : ℕ) (s t : State) (B : Concept) → Added L n s t B → Added K n s.0 t.0 (number_of B)
  added_back n s t B a =
      let c = concept-number 𝓒.counts fit.names B (concept-out 𝓒.counts B (mark-markable L (suc n) s t B a.then).of) in
      record {
        then = mark_back (suc n) s t B a.then;
        before = λ m. let x = mark_to 𝓒 rows r n s.0 t.0 (number_of B) m in a.before (rw c at x);
      }

  same_adds : (n m : ℕ) → Adds K n m → Adds L n m
  same_adds n m a = record {
    marks = map of_rows a.marks;
    once = distinct-map of_rows a.marks (λ p q i j e. same_back p q e) a.once;
    are = λ s t B. (to s t B, from s t B);
    many = length-map a.marks of_rows ∙ a.many;
  }
    where
      to : (s t : State) (B : Concept) → (s, t, B) ∈ map of_rows a.marks → Added L n s t B
      to s t B i = let w = map-out of_rows a.marks i in there w.0 w.1 w.2
        where
          there : (p : ℕ × ℕ × ℕ) → p ∈ a.marks → (s, t, B) ≡ of_rows p → Added L n s t B
          there (s₁, t₁, B₁) i e =
              let x = added_to n s₁ t₁ B₁ ((a.are s₁ t₁ B₁).0 i) in
              rw (
                ap (λ (x : State × State × Concept). x.0) e,
                ap (λ (x : State × State × Concept). x.1) e,
                ap (λ (x : State × State × Concept). x.2) e,
              ) x

      from : (s t : State) (B : Concept) → Added L n s t B → (s, t, B) ∈ map of_rows a.marks
      from s t B x =
          let c = concept-number 𝓒.counts fit.names B (concept-out 𝓒.counts B (mark-markable L (suc n) s t B x.then).of) in
          let i = map-in of_rows ((a.are s.0 t.0 (number_of B)).1 (added_back n s t B x)) in
          rw c at i

  -- THEOREM: and rounds add the same numbers of marks
  pub same_counts : CountsMean 𝓒 rows
  same_counts n counts c = record { long = c.long; each = λ k l. same_adds k _ (c.each k l) }

  -- ---- what is told of rounds

  first_to : (n s t B : ℕ) → FirstIn (numbered rows) n s t B → FirstIn (numbered_lite 𝓒) n (state s) (state t) (concept_of B)
  first_to n s t B f = record {
    stands = mark_to 𝓒 rows r n s t B f.stands;
    no_sooner = λ m h k. f.no_sooner m h (mark_from 𝓒 rows r m s t B k);
  }

  first_back : (n : ℕ) (s t : State) (B : Concept) → FirstIn (numbered_lite 𝓒) n s t B → FirstIn (numbered rows) n s.0 t.0 (number_of B)
  first_back n s t B f =
      let c = concept-number 𝓒.counts fit.names B (concept-out 𝓒.counts B (mark-markable L n s t B f.stands).of) in
      record {
        stands = mark_back n s t B f.stands;
        no_sooner = λ m h k. let x = mark_to 𝓒 rows r m s.0 t.0 (number_of B) k in f.no_sooner m h (rw c at x);
      }

  same_first : (n : ℕ) (numbers : List (ℕ × ℕ × ℕ)) → FirstMarks (numbered rows) n numbers
      → FirstMarks (numbered_lite 𝓒) n (map mark_of numbers)
  same_first n numbers f = record {
    sorted = rises-map (mark_order (numbered rows)) (mark_order (numbered_lite 𝓒)) mark_of
        (λ x y h. rw (number-concept x.2, number-concept y.2) h) numbers f.sorted;
    are = λ s t B. (to s t B, from s t B);
  }
    where
      to : (s t : State) (B : Concept) → (s, t, B) ∈ map mark_of numbers → FirstIn (numbered_lite 𝓒) n s t B
      to s t B i =
          let w = map-out mark_of numbers i in
          let x = w.0 in
          subst (λ (m : State × State × Concept). FirstIn (numbered_lite 𝓒) n m.0 m.1 m.2) (sym w.2)
          (first_to n x.0 x.1 x.2 ((f.are x.0 x.1 x.2).0 w.1))

      from : (s t : State) (B : Concept) → FirstIn (numbered_lite 𝓒) n s t B → (s, t, B) ∈ map mark_of numbers
      from s t B x =
          let c = concept-number 𝓒.counts fit.names B (concept-out 𝓒.counts B (mark-markable L n s t B x.stands).of) in
          let i = map-in mark_of ((f.are s.0 t.0 (number_of B)).1 (first_back n s t B x)) in
          rw c at i

  -- THEOREM: what is told of rounds has the collection's marks
  pub same_marks : MarksMean 𝓒 rows
  same_marks n rounds t = record { long = t.long; each = λ k h. let w = t.each k h in rw w.told (same_first k w.numbers w.are) }
