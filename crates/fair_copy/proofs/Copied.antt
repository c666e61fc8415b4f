-- The copy of frames that were read whole: line 1 stands first in it, and it is whole itself.
use Rattle.std.specs.Prelude.{◌≡◌, ◌≢◌, refl, ◌⊎◌, false, ℕ, ◌/◌, ◌≤◌, None, Some, Option, length}
use Rattle.std.specs.List.Sorted.{IsStrictlySortedBy}
use Rattle.std.specs.declared.cmp.Ordering.TheVariants.{Less}
use Rattle.std.proofs.Common.{sym, ap, ◌∙◌, inl, inr, arith}
use mathlib.Core.List.Memᴰ
use mathlib.Core.List.{List, [], ◌∷◌, ◌++◌}
use Rattle.laws.specs.Member.{◌∈◌}
use Rattle.laws.specs.Distinct.{distinct-few}
use Rattle.kinds.specs.declared.Counts.{Counts}
use Rattle.meaning.specs.Collection.{role, test, Step, step, StepDeclared}
use Rattle.sorted.specs.Rows.{rows}
use Rattle.sorted.proofs.Chunks.{length-chunks}
use Rattle.expression.specs.Listed.{Listed}
use Rattle.frames.specs.declared.Frame.{Frame}
use Rattle.frames.specs.declared.Frame.TheVariants.{Declared, Allowance, Expression, Salvage, ListedMark}
use Rattle.reading.specs.Tables.{Kind, concept_rules, concept_exclusions, role_rules, role_exclusions, concept_facts, role_facts, steps, finals, asks, listed, width, most, entries, table, list_in, declared_by, allowance_given, expression_given, salvages}
use Rattle.reading.specs.File.{IsQuestionOf}
use Rattle.reading.specs.Reading.{Taken}
use Rattle.reading.proofs.Turns.{fitting}
use Rattle.reading.proofs.Bounds.{few}
use Rattle.reading.proofs.Accepted.{declared}
use Rattle.intake.specs.Verdicts.{accepted, no-list}
use Rattle.shell.specs.Writes.{IsSound}
use Rattle.fair_copy.specs.Copy.{IsCopied, step_frame, StandsIn, typed, by_step, by_final, frame_order, IsCopyOf, frames_text}
use Rattle.laws.specs.Rises.{not-below, rises-rest, rises-first, rises-across, rises-distinct}
use Rattle.fair_copy.proofs.Order.{total}
use Rattle.fair_copy.proofs.Records.{records_of, records-out, length-records, distinct-records, rows-table}
use Rattle.fair_copy.proofs.Taken.{IsDeclared, all-declared, line-1-there, allowance-there, given-allowance}
use Rattle.fair_copy.proofs.Stands.{AreWhole, table_of, stands-row, fitting-tables}
use Rattle.fair_copy.proofs.Fits.{AllFit, stands-fits}
use Rattle.fair_copy.proofs.Orderly.{IsFine, IsOrderly, no-expression, none-listed, no-salvage, orderly-taken, text-read}

-- the question that some frames type
abbrev pub typed_by : List Frame → Listed
typed_by fs = record { states = (declared_by fs).states; steps = table steps fs; finals = table finals fs }

-- only line 1 comes before line 1
before-line-1 : (c : Counts) (f : Frame) → frame_order f (Declared c) ≡ Less → (d : Counts) × (f ≡ Declared d)
before-line-1 c (Declared d) e = (d, refl)
before-line-1 c f e = absurd cc

fine-of : (c : Counts) (f : Frame) → IsDeclared c f → IsCopied f → ((d : Counts) → f ≡ Declared d → ⊥) → IsFine c f
fine-of c (Declared d) h k n = n d refl
fine-of c (Expression row) h k n = k
fine-of c Salvage h k n = k
fine-of c (ListedMark m s t B) h k n = k
fine-of c f h k n = h

pub stands-copied : {fs : List Frame} {q : Listed} {f : Frame} → StandsIn fs q f → IsCopied f
stands-copied (typed f m c) = c
stands-copied (by_step s m) = by s
  where
    by : (s : Step) → IsCopied (step_frame s)
    by (step u (role S) v) = tt
    by (step u (test A) v) = tt
stands-copied (by_final s m) = tt

module _ (fs : List Frame) (q : Listed) (w : AreWhole fs q) where
  step-declared : (s : Step) → StepDeclared (declared_by fs) s → IsDeclared (declared_by fs) (step_frame s)
  step-declared (step u (role S) v) d = (d, tt)
  step-declared (step u (test A) v) d = (d, tt)

  pub stands-declared : {f : Frame} → StandsIn fs q f → IsDeclared (declared_by fs) f
  stands-declared (typed f m c) = all-declared fs w.are.taken f m
  stands-declared (by_step s m) = step-declared s ((declared w.are.taken q w.are.asks 0).steps s m)
  stands-declared (by_final s m) = ((declared w.are.taken q w.are.asks 0).finals s m, tt)

  pub stands-line-1 : StandsIn fs q (Declared (declared_by fs))
  stands-line-1 = typed (Declared (declared_by fs)) (line-1-there fs w.are.taken w.are.begun) tt

  -- an allowance that stands in the copy was typed
  stands-typed : {f : Frame} → StandsIn fs q f → (n : ℕ) → f ≡ Allowance n → Allowance n ∈ fs
  stands-typed (typed f m c) n e = rw (← e) m
  stands-typed (by_step s m) n e = absurd (by s e)
    where
      by : (s : Step) → step_frame s ≡ Allowance n → ⊥
      by (step u (role S) v) e = cc
      by (step u (test A) v) e = cc
  stands-typed (by_final s m) n e = absurd cc

  pub stands-allowed : (n : ℕ) → StandsIn fs q (Allowance n) → allowance_given fs ≡ Some n
  stands-allowed n s = allowance-there fs w.are.taken n (stands-typed s n refl)

  -- no table holds more than its most
  typed-few : (kind : Kind) → length (rows (width kind) (table kind fs)) ≤ most kind
  typed-few kind = rw (rows-table kind fs, length-records kind fs) (few kind fs w.are.taken)

  table-few : (kind : Kind) → length (rows (width kind) (table_of fs q kind)) ≤ most kind
  table-few steps = rw (length-chunks 4 (length q.steps / 4) q.steps) (fitting-tables fs q w.are).steps.few
  table-few finals = rw (length-chunks 1 (length q.finals / 1) q.finals) (fitting-tables fs q w.are).finals.few
  table-few concept_rules = typed-few concept_rules
  table-few concept_exclusions = typed-few concept_exclusions
  table-few role_rules = typed-few role_rules
  table-few role_exclusions = typed-few role_exclusions
  table-few concept_facts = typed-few concept_facts
  table-few role_facts = typed-few role_facts
  table-few asks = typed-few asks
  table-few listed = typed-few listed

  -- frames that rise, of which each stands in the copy, add no more records than there may be
  rising-few : (l : List Frame) → IsStrictlySortedBy frame_order l → ((f : Frame) → f ∈ l → StandsIn fs q f) → (kind : Kind)
      → entries kind l ≤ most kind
  rising-few l rises in-copy kind =
      let once = distinct-records kind l (λ f m. (stands-fits fs q w (in-copy f m)).concepts) (rises-distinct frame_order total l rises) in
      let all = distinct-few (records_of kind l) (rows (width kind) (table_of fs q kind)) once
      (λ r m. let x = records-out kind l m in stands-row fs q w.are (in-copy x.0 x.1) kind r x.2) in
      omega (arith, all, length-records kind l, table-few kind)

  module _ (copy : List Frame) (k : IsCopyOf fs q copy) where
    pub record Headed : Type 0 where
      pub rest : List Frame
      pub is : copy ≡ Declared (declared_by fs) ∷ rest

    -- line 1 comes first
    pub headed : Headed
    headed = by copy refl
      where
        by : (l : List Frame) → copy ≡ l → Headed
        by [] e = absurd (Memᴰ.not-nil (rw e at ((k.same _).1 stands-line-1)))
        by (g ∷ l) e = side (Memᴰ.cases_cons (rw e at ((k.same _).1 stands-line-1)))
          where
            same : (d : Counts) → g ≡ Declared d → d ≡ declared_by fs
            same d i = stands-declared ((k.same (Declared d)).0 (rw (e, ← i) (Memᴰ.head refl)))

            side : (Declared (declared_by fs) ≡ g) ⊎ (Declared (declared_by fs) ∈ l) → Headed
            side (inl i) = record { rest = l; is = e ∙ ap (λ f. f ∷ l) (sym i) }
            side (inr m) =
                let x = before-line-1 (declared_by fs) g (rises-first frame_order g l (rw e at k.rises) _ m) in
                record { rest = l; is = e ∙ ap (λ f. f ∷ l) (x.1 ∙ ap Declared (same x.0 x.1)) }

    rest-in : (f : Frame) → f ∈ headed.rest → StandsIn fs q f
    rest-in f m = (k.same f).0 (rw headed.is (Memᴰ.tail m))

    copy-rises : IsStrictlySortedBy frame_order (Declared (declared_by fs) ∷ headed.rest)
    copy-rises = rw headed.is at k.rises

    rest-rises : IsStrictlySortedBy frame_order headed.rest
    rest-rises = rises-rest frame_order (Declared (declared_by fs)) headed.rest copy-rises

    -- no later line declares
    rest-later : (f : Frame) → f ∈ headed.rest → (d : Counts) → f ≡ Declared d → ⊥
    rest-later f m d e =
        let same : d ≡ declared_by fs = stands-declared (rw e at (rest-in f m)) in
        let below = rises-first frame_order (Declared (declared_by fs)) headed.rest copy-rises f m in
        not-below frame_order total (Declared (declared_by fs)) (rw (e, same) at below)

    rest-allowed : (before rest : List Frame) (n : ℕ) → headed.rest ≡ before ++ Allowance n ∷ rest → allowance_given before ≡ None
    rest-allowed before rest n e = by (allowance_given before) refl
      where
        given : (m : ℕ) → Allowance m ∈ (before ++ Allowance n ∷ rest) → allowance_given fs ≡ Some m
        given m i = stands-allowed m (rest-in (Allowance m) (rw e i))

        by : (o : Option ℕ) → allowance_given before ≡ o → o ≡ None
        by None d = refl
        by (Some m) d =
            let i = given-allowance before m d in
            let both : Some m ≡ Some n =
            sym (given m (Memᴰ.append_left (Allowance n ∷ rest) i)) ∙ given n (Memᴰ.append_right before (Memᴰ.head refl)) in
            let same : m ≡ n = cc in
            let below = rises-across frame_order before (Allowance n) rest (rw e at rest-rises) (Allowance m) i in
            absurd (not-below frame_order total (Allowance n) (rw same at below))

    pub orderly : IsOrderly (declared_by fs) headed.rest
    orderly = record {
      counts = fitting fs w.are.taken w.are.begun;
      fine = λ f m. fine-of (declared_by fs) f (stands-declared (rest-in f m)) (stands-copied (rest-in f m)) (rest-later f m);
      allowed = rest-allowed;
      few = rising-few headed.rest rest-rises rest-in;
    }

    -- THEOREM: the copy is whole,
    pub copy-fits : AllFit copy
    copy-fits f m = stands-fits fs q w ((k.same f).0 m)

    pub copy-taken : Taken copy
    copy-taken = rw headed.is (orderly-taken (declared_by fs) headed.rest orderly)

    copy-begun : copy ≢ []
    copy-begun e = absurd (let d : Declared (declared_by fs) ∷ headed.rest ≡ [] = sym headed.is ∙ e in cc)

    pub copy-declared : declared_by copy ≡ declared_by fs
    copy-declared = ap declared_by headed.is

    copy-typed : expression_given copy ≡ None
    copy-typed = ap expression_given headed.is ∙ no-expression (declared_by fs) headed.rest orderly.fine

    pub copy-asks : IsQuestionOf copy (typed_by copy)
    copy-asks = record { typed = λ e. refl; expressed = rw copy-typed tt }

    -- no list stands in it,
    pub copy-unlisted : list_in copy ≡ []
    unfolding list_in
    copy-unlisted = ap list_in headed.is ∙ none-listed (declared_by fs) headed.rest orderly.fine

    -- nor is salvage chosen,
    pub copy-plain : salvages copy ≡ false
    copy-plain = ap salvages headed.is ∙ no-salvage (declared_by fs) headed.rest orderly.fine

    pub copy-whole : AreWhole copy (typed_by copy)
    copy-whole = record { are = record { taken = copy-taken; begun = copy-begun; asks = copy-asks }; lined = copy-fits }

    -- and its text is read as it
    pub copy-read : IsSound (frames_text copy) copy
    copy-read = accepted copy (text-read copy copy-taken copy-begun copy-fits) (no-list copy-unlisted)
