-- From what was read to the automaton of a row.
use Rattle.std.specs.Prelude.{◌≡◌, refl, ◌⊎◌, ◌↔◌, true, List, [], map, flat_map, ℕ, ◌+◌, ◌*◌, ◌/◌, ◌%◌, ◌<◌, ◌≤◌, length, slice_index_or, set, replicate, Ok, Err}
use Rattle.std.proofs.Common.{sym, ap, ◌∙◌, inl, inr, ⊎_elim, arith, drop_of_length-le}
use Rattle.std.proofs.lemmas.List.{length-drop, get_or-replicate, get_or-set_same, get_or-set_other}
use Rattle.std.proofs.lemmas.Nat.Bits.{bit_at-zero}
use Rattle.std.proofs.Math.Decide.{ℕ_discrete, dec_lt}
use Rattle.kinds.specs.declared.State.{State}
use Rattle.kinds.specs.Kinds.{most_states, state}
use Rattle.laws.specs.Member.{◌∈◌}
use Rattle.meaning.specs.Collection.{Letter, Step, step}
use Rattle.meaning.specs.Lent.{records, step_width, step_at, final_width, final_at}
use Rattle.sets.specs.Bits.{Has}
use Rattle.sets.specs.Rows.{no_states}
use Rattle.sets.specs.declared.states.StateSet.{StateSet}
use Rattle.expression.specs.Marks.{mark_letter}
use Rattle.expression.specs.Tree.{Tree, MarkReads, itself, in_first, in_second, in_this, in_that, in_many, MayPrecede, start, after, StepsInto, EndsAt, nothing, ending, CanBeFirst, CanFollow}
use Rattle.expression.specs.Numbered.{Numbered, number, numbers, numbers_or, numbers_many}
use Rattle.expression.specs.Grammar.{Expression, IsExpression}
use Rattle.expression.specs.Ends.{ExpressionEnds}
use Rattle.expression.specs.Depth.{TooDeep}
use Rattle.expression.specs.Automaton.{IsAutomaton}
use Rattle.expression.specs.Listed.{Listed, Lists, step_numbers, final_number}
use Rattle.expression.specs.Listing.{places_from, step_of, steps_below, finals_below}
use Rattle.expression.specs.Parts.{InRow, Knows, IsFinals}
use Rattle.expression.specs.Reader.{Reads, Nothing}
use Rattle.expression.specs.Answer.{IsNoExpression, HasMarks}
use Rattle.expression.specs.Answered.{Answered, too_many, answered}
use Rattle.expression.specs.declared.parts.Part.{Part}
use Rattle.expression.specs.declared.listed.Refusal.TheVariants as refusal
use Rattle.expression.proofs.Words.{In, first-in, last-in, next-from, next-to}
use Rattle.expression.proofs.Once.{at-end}
use Rattle.expression.proofs.AnyDepth.{any-depth}
use Rattle.expression.proofs.ListingLaws.{steps-sound, steps-full, finals-sound, finals-full, steps-rise, finals-rise}
use Rattle.expression.proofs.TableLaws.{steps-back, finals-back}

-- each number of a part is that of a mark, which reads something
has-mark : {n m k : ℕ} {e : Tree} → Numbered n e m → In n m k → (l : Letter) × MarkReads e k l
has-mark (number {l = l} p q) i = let a = i.low in let b = i.high in (l, itself (omega arith) refl)
has-mark {k = k} (numbers {h = h} c d) i =
    elim (dec_lt h k) [
      | yes g ↦ let x = has-mark d (record { low = g; high = i.high }) in (x.0, in_second x.1)
      | no g ↦ let x = has-mark c (record { low = i.low; high = omega arith }) in (x.0, in_first x.1)
    ]
has-mark {k = k} (numbers_or {h = h} c d) i =
    elim (dec_lt h k) [
      | yes g ↦ let x = has-mark d (record { low = g; high = i.high }) in (x.0, in_that x.1)
      | no g ↦ let x = has-mark c (record { low = i.low; high = omega arith }) in (x.0, in_this x.1)
    ]
has-mark (numbers_many c) i = let x = has-mark c i in (x.0, in_many x.1)

-- tables of the steps and final states of an expression
module _ (e : Tree) (l : List Step) (f : List State) (are : IsAutomaton e l f) (a : Listed) (p : a.steps ≡ flat_map step_numbers l) (q : a.finals ≡ map final_number f) where
  steps-are : records step_width step_at a.steps ≡ l
  steps-are = ap (records step_width step_at) p ∙ steps-back l

  finals-are : records final_width final_at a.finals ≡ f
  finals-are = ap (records final_width final_at) q ∙ finals-back f

moved : {e : Tree} {l : Letter} {i j k m : ℕ} → i ≡ j → k ≡ m → StepsInto e j l m → StepsInto e i l k
moved p q x = rw (p, q) x

-- no row yet
abbrev none : List StateSet
none = replicate most_states no_states

abbrev unread : List ℕ
unread = replicate most_states 0

abbrev from-of : Step → State
from-of (step s l t) = s

abbrev letter-of : Step → Letter
letter-of (step s l t) = l

abbrev to-of : Step → State
to-of (step s l t) = t

module _ (row : List ℕ) where
  pub not-one : (TooDeep row → ⊥) → Nothing (Expression 8) ExpressionEnds row 0 0 → IsNoExpression row
  not-one s f = record { shallow = s; none = λ d e m x. f.none e m [] (any-depth x s).reads at-end }

  module _ {p c : ℕ} {a : Part} {rows : List StateSet} {letters : List ℕ} (g : Reads (Expression 8) ExpressionEnds row 0 0 none unread p c a rows letters) where
    pub not-whole : (TooDeep row → ⊥) → p < length row → IsNoExpression row
    not-whole s h =
        record { shallow = s; none = λ d e m x. let q = ap length (g.only e m [] (any-depth x s).reads at-end).rest in omega (arith, length-drop p row) }

    module _ (whole : length row ≤ p) where
      is-it : IsExpression row g.tree c
      is-it = let x = g.reads in let e = drop_of_length-le row {i = p} whole in record { reads = rw e at x }

      known : Knows 0 none unread g.tree a c rows letters
      known = g.knows

      from_zero : {k : ℕ} → MayPrecede g.tree 0 k → CanBeFirst g.tree k
      from_zero x = go x refl
        where
          go : {j k : ℕ} → MayPrecede g.tree j k → j ≡ 0 → CanBeFirst g.tree k
          go (start h) z = h
          go (after h) z = absurd (let i = (next-from known.numbered h).low in omega arith)

      from-other : {j k : ℕ} → MayPrecede g.tree j k → 0 < j → CanFollow g.tree j k
      from-other (start h) z = absurd (omega arith)
      from-other (after h) z = h

      entered : {j k : ℕ} → MayPrecede g.tree j k → In 0 c k
      entered (start h) = first-in known.numbered h
      entered (after h) = next-to known.numbered h

      left-from : {j k : ℕ} → MayPrecede g.tree j k → j ≤ c
      left-from (start h) = omega arith
      left-from (after h) = (next-from known.numbered h).high

      ends-within : {k : ℕ} → EndsAt g.tree k → k ≤ c
      ends-within (nothing h) = omega arith
      ends-within (ending h) = (last-in known.numbered h).high

      nothing-yet : (j k : ℕ) → j < most_states → InRow none j k → ⊥
      nothing-yet j k h x = let e = get_or-replicate most_states j no_states no_states h in let z = bit_at-zero k in let y = rw e at x in omega arith

      module _ (long : 0 < length rows) (few : c < most_states) where
        abbrev all : List StateSet
        all = set rows 0 a.first

        row_zero : (k : ℕ) → k < most_states → InRow all 0 k ↔ MayPrecede g.tree 0 k
        row_zero k h =
            let e = get_or-set_same rows 0 a.first no_states long in
            rw e (λ x. start ((known.first.at k h).0 x), λ x. (known.first.at k h).1 (from_zero x))

        row_other : (j k : ℕ) → 0 < j → j < most_states → k < most_states → InRow all j k ↔ MayPrecede g.tree j k
        row_other j k z h i =
            let e = get_or-set_other rows 0 j a.first no_states (λ q. omega arith) in
            rw e (
              λ x. ⊎_elim (λ y. absurd (nothing-yet j k h y)) (λ y. after y) ((known.rows j k h i).0 x),
              λ x. (known.rows j k h i).1 (inr (from-other x z)),
            )

        in-row : (j k : ℕ) → j < most_states → k < most_states → InRow all j k ↔ MayPrecede g.tree j k
        in-row j k h i = elim (ℕ_discrete j 0) [ yes e ↦ rw e (row_zero k i) | no e ↦ row_other j k (omega arith) h i ]

        -- the steps listed
        step-in : (s : State) (l : Letter) (t : State) → StepsInto g.tree s.0 l t.0 → step s l t ∈ steps_below all letters (places_from (c + 1))
        step-in s l t x =
            let i = (entered x.before).high in
            let o = left-from x.before in
            let p = most_states * s.0 + t.0 in
            let ps : p / most_states ≡ s.0 = omega arith in
            let pt : p % most_states ≡ t.0 = omega arith in
            let y = (in-row s.0 t.0 (omega arith) (omega arith)).1 x.before in
            let z : InRow all (p / most_states) (p % most_states) = rw (ps, pt) y in
            let m = steps-full all letters (places_from (c + 1)) p (omega arith) z in
            let r : l ≡ mark_letter (slice_index_or letters (p % most_states) 0) = rw pt (known.reads t.0 l (omega arith) x.reads) in
            let e : step_of letters p ≡ step s l t = λ i. step (state (ps i)) (sym r i) (state (pt i)) in
            rw e at m

        step-out : (s : State) (l : Letter) (t : State) → step s l t ∈ steps_below all letters (places_from (c + 1)) → StepsInto g.tree s.0 l t.0
        step-out s l t x =
            let y = steps-sound all letters (places_from (c + 1)) (step s l t) x in
            let p = y.0 in
            let o = y.1 in
            let ps : s.0 ≡ p / most_states = ap (λ (z : Step). (from-of z).0) y.3 in
            let pt : t.0 ≡ p % most_states = ap (λ (z : Step). (to-of z).0) y.3 in
            let r : l ≡ mark_letter (slice_index_or letters (p % most_states) 0) = ap letter-of y.3 in
            let b = (in-row (p / most_states) (p % most_states) (omega arith) (omega arith)).0 y.2 in
            let w = has-mark known.numbered (entered b) in
            let z : w.0 ≡ l = known.reads (p % most_states) w.0 (omega arith) w.1 ∙ sym r in
            let m = w.1 in
            moved ps pt (record { before = b; reads = rw z at m })

        module _ {f : StateSet} (w : IsFinals a f) where
          final-in : (t : State) → EndsAt g.tree t.0 → t ∈ finals_below f (c + 1)
          final-in t x =
              let i = ends-within x in
              let h : t.0 < most_states = omega arith in
              finals-full f (c + 1) t (omega arith) ((w.at t.0 h).1 (go x h))
            where
              go : {k : ℕ} → EndsAt g.tree k → k < most_states → Has a.last.0 k ⊎ ((a.empty ≡ true) × (k ≡ 0))
              go (nothing y) h = inr (known.empty.1 y, refl)
              go {k} (ending y) h = inl ((known.last.at k h).1 y)

          final-out : (t : State) → t ∈ finals_below f (c + 1) → EndsAt g.tree t.0
          final-out t x =
              let y = finals-sound f (c + 1) t x in
              let l = y.0 in
              let h : t.0 < most_states = omega arith in
              ⊎_elim (λ z. ending ((known.last.at t.0 h).0 z)) (λ z. let e = z.1 in rw e (nothing (known.empty.0 z.0))) ((w.at t.0 h).0 y.1)

          tables : IsAutomaton g.tree (steps_below all letters (places_from (c + 1))) (finals_below f (c + 1))
          tables = record {
            steps = λ s l t. (step-out s l t, step-in s l t);
            finals = λ t. (final-out t, final-in t);
          }

          all-listed : (b : Listed) → b.steps ≡ flat_map step_numbers (steps_below all letters (places_from (c + 1))) → b.finals ≡ map final_number (finals_below f (c + 1)) → Lists g.tree b
          all-listed b p q =
              let x = steps-are g.tree (steps_below all letters (places_from (c + 1))) (finals_below f (c + 1)) tables b p q in
              let y = finals-are g.tree (steps_below all letters (places_from (c + 1))) (finals_below f (c + 1)) tables b p q in
              record {
                are = rw (x, y) tables;
                steps_rise = rw x (steps-rise all letters (places_from (c + 1)));
                finals_rise = rw y (finals-rise f (c + 1));
                steps_only = p ∙ ap (flat_map step_numbers) (sym x);
                finals_only = q ∙ ap (map final_number) (sym y);
              }

      has-marks : (TooDeep row → ⊥) → HasMarks row c
      has-marks d = record { shallow = d; tree = g.tree; is = is-it }

      pub many-marks : (TooDeep row → ⊥) → (c < most_states → ⊥) → Answered row (Err (refusal.TooManyMarks c))
      many-marks d m = too_many c (record { marks = has-marks d; more = omega arith })

      pub it-is : (TooDeep row → ⊥) → c < most_states → 0 < length rows → {f : StateSet} → IsFinals a f → (b : Listed) → b.states ≡ c + 1
          → b.steps ≡ flat_map step_numbers (steps_below (set rows 0 a.first) letters (places_from (c + 1))) → b.finals ≡ map final_number (finals_below f (c + 1)) → Answered row (Ok b)
      it-is d few long {f} w b s p q =
          answered b (record { count = c; marks = has-marks d; few = few })
          (record { tree = g.tree; marks = c; is = is-it; few = few; states = s; lists = all-listed long few w b p q })
