-- The contracts of `sheet` leave one answer each: the end of rounds, the sheet and what comes next, what is told of rounds,
-- every byte of an area.
use Rattle.std.specs.Prelude.{◌≡◌, refl, ◌↔◌, Bool, true, false, List, [], map, ℕ, ◌*◌, ◌/◌, ◌%◌, ◌<◌, ◌≤◌}
use Rattle.std.proofs.Common.{sym, ◌∙◌, ap, arith, ext_get_or}
use Rattle.kinds.specs.Kinds.{most_states}
use Rattle.laws.specs.Once.{AtMostOne}
use Rattle.theory.specs.Sheet.{Mark}
use Rattle.theory.proofs.SheetLaws.{rounds-unique}
use Rattle.theory.proofs.ListingLaws.{marks-once}
use Rattle.sets.specs.declared.concepts.ConceptSet.{ConceptSet}
use Rattle.sets.proofs.Once.{concept_rows_once}
use Rattle.rules.proofs.Members.{has_is, has_of}
use Rattle.rules.specs.declared.rows.Rows.{Rows}
use Rattle.rules.specs.Rows.{most_concepts, pair, At, kind_of}
use Rattle.sheet.specs.declared.closing.Closing.{Closing}
use Rattle.sheet.specs.declared.allowed.Ran.{Ran}
use Rattle.sheet.specs.declared.allowed.Ran.TheVariants.{Needed}
use Rattle.theory.specs.Marks.{Added}
use Rattle.sheet.specs.Sheets.{Holds}
use Rattle.sheet.specs.Listed.{mark_of}
use Rattle.sheet.specs.Telling.{numbered, ToldIn, ToldUpTo}
use Rattle.sheet.specs.Ends.{Ended, needed, spent, rounds_made}
use Rattle.meaning.proofs.LayoutLaws.{packs-once}
use Rattle.sheet.specs.Areas.{IsPlaceIn, LaysRows, IsPlaceOf, LaysMarks}
use Rattle.sheet.specs.Meant.{IsSheet, HasRound, SameRound, Closes}

module _ (rows : Rows) (allowance : ℕ) where
  -- THEOREM: rounds end in one way
  pub ended_once : {r q : Ran} → Ended rows allowance r → Ended rows allowance q → r ≡ q
  ended_once (needed {n = n} h l) (needed {n = m} k j) = ap Needed (rounds-unique (kind_of rows) n m h k)
  ended_once (needed {n = n} h l) (spent none) = absurd (none n l h.holds)
  ended_once (spent none) (needed {n = n} h l) = absurd (none n l h.holds)
  ended_once (spent none) (spent other) = refl

same_test : (a b : Bool) → (a ≡ true) ↔ (b ≡ true) → a ≡ b
same_test true b h = sym (h.0 refl)
same_test false true h = h.1 refl
same_test false false h = refl

-- THEOREM: one sheet of rows holds some marks
pub holds_once : (f : ℕ → ℕ → ℕ → Type 0) (v w : List ConceptSet) → Holds f v → Holds f w → IsSheet v → IsSheet w → v ≡ w
holds_once f v w a b p q =
    concept_rows_once (most_states * most_states) v w p q
    (λ i j hi hj.
    let x = at v a i j hi hj in
    let y = at w b i j hi hj in
    same_test _ _ (λ e. has_of _ j (y.1 (x.0 (has_is _ j e))), λ e. has_of _ j (x.1 (y.0 (has_is _ j e)))))
  where
    at : (x : List ConceptSet) → Holds f x → (i j : ℕ) → i < most_states * most_states → j < most_concepts
        → At x i j ↔ f (i / most_states) (i % most_states) j
    at x h i j hi hj =
        let e : pair (i / most_states) (i % most_states) ≡ i = omega arith in
        rw e at (h.at (i / most_states) (i % most_states) j (omega arith) (omega arith) hj)

module _ (rows : Rows) (n : ℕ) where
  -- THEOREM: after so many rounds there is one sheet, and one thing to come
  pub round_once : (v w : Closing) → HasRound rows n v → HasRound rows n w → SameRound v w
  round_once v w a b = record {
    sheet = holds_once (Mark (kind_of rows) n) v.sheet.rows w.sheet.rows a.round.sheet b.round.sheet a.sheet b.sheet;
    delta = holds_once (Added (kind_of rows) n) v.delta.marks.rows w.delta.marks.rows a.round.delta b.round.delta a.delta b.delta;
  }

  -- THEOREM: and of rounds one thing is told
  told_in_once : AtMostOne (ToldIn rows n)
  told_in_once x y a b = let e = marks-once (numbered rows) n a.numbers b.numbers a.are b.are in a.told ∙ (ap (map mark_of) e ∙ sym b.told)

pub told_once : (rows : Rows) (n : ℕ) → AtMostOne (ToldUpTo rows n)
told_once rows n x y a b =
    ext_get_or [] x y (a.long ∙ sym b.long)
    (λ k l. let h : k ≤ n = omega (arith, a.long) in told_in_once rows k _ _ (a.each k h) (b.each k h))

-- THEOREM: every byte of an area is given by the marks
pub lays_once : (f : ℕ → ℕ → ℕ → Type 0) (v w : List ℕ) → LaysMarks f v → LaysMarks f w → v ≡ w
lays_once f = packs-once (IsPlaceOf f)

pub rows_lay_once : (sheet : List ConceptSet) (v w : List ℕ) → LaysRows sheet v → LaysRows sheet w → v ≡ w
rows_lay_once sheet = packs-once (IsPlaceIn sheet)

-- THEOREM: what rounds answer, and leave in both areas, is given by what it is called with
pub runs_once : (rows : Rows) (allowance : ℕ) (r q : Ran) (x y u v : List ℕ) → Closes rows allowance r x y → Closes rows allowance q u v
    → (r ≡ q) × (x ≡ u) × (y ≡ v)
runs_once rows allowance r q x y u v a b =
    let e = ended_once rows allowance a.ended b.ended in
    let s = a.sheet in
    (e, lays_once (Mark (kind_of rows) (rounds_made allowance q)) x u (rw e at s) b.sheet, a.cleared ∙ sym b.cleared)
