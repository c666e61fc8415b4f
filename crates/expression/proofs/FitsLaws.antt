-- What a mark reads is declared where the row's marks are, and the tables of an automaton pass what a call asks of them.
use Rattle.std.specs.Prelude.{◌≡◌, refl, ◌⊎◌, ◌↔◌, List, [], ◌∷◌, flat_map, length, ℕ, zero, suc, ◌+◌, ◌*◌, ◌/◌, ◌%◌, ◌<◌, ◌≤◌, slice_index}
use Rattle.std.proofs.Common.{sym, ap, ◌∙◌, inl, inr, arith}
use Rattle.std.proofs.lemmas.List.{length-map, get_or-append-add}
use mathlib.Core.List.Memᴰ
use Rattle.kinds.specs.declared.Counts.{Counts}
use Rattle.kinds.specs.declared.State.{State}
use Rattle.kinds.specs.Kinds.{most_states}
use Rattle.laws.specs.Member.{◌∈◌}
use Rattle.laws.specs.Numbers.{numbered-out}
use Rattle.meaning.specs.Collection.{Letter, role, test, Step, step, LetterDeclared, StepDeclared}
use Rattle.meaning.specs.Lent.{records, letter_of, field, step_width}
use Rattle.tables.specs.Letters.{read_letter, IsLetterDeclared}
use Rattle.expression.specs.Marks.{mark_letter}
use Rattle.expression.specs.Letters.{table_letter}
use Rattle.expression.specs.Tree.{Tree, both, either, MarkReads, itself, in_first, in_second, in_this, in_that, in_many, MayPrecede, start, after, StepsInto, EndsAt, nothing, ending}
use Rattle.expression.specs.Numbered.{Numbered}
use Rattle.expression.specs.Grammar.{Atom, letter, bracket, Item, once, repeated, Sequence, items, Items, no_item, item, Expression, sequences, Sequences, no_sequence, or_else}
use Rattle.expression.specs.Listed.{Listed, step_numbers, final_number, step_rank, steps_of, finals_of, Rises, begins}
use Rattle.expression.specs.Listing.{places}
use Rattle.expression.specs.Fits.{FitsTables, NeedsMarks}
use Rattle.expression.specs.Answer.{IsAutomatonOf}
use Rattle.expression.proofs.Words.{first-in, last-in, next-from, next-to}
use Rattle.expression.proofs.Once.{expression-numbered}
use Rattle.expression.proofs.TableLaws.{length-steps, length-step}

-- THEOREM: what a mark reads is declared in the tables' words where it is in those of the question
pub letter-declared : (c : Counts) (b : ℕ) → IsLetterDeclared c (table_letter b) ↔ LetterDeclared c (mark_letter b)
letter-declared c b = by (b / 64) (b % 64)
  where
    by : (kind x : ℕ) → IsLetterDeclared c (read_letter kind x) ↔ LetterDeclared c (letter_of kind x)
    by zero x = (λ h. h, λ h. h)
    by (suc kind) x = (λ h. h, λ h. h)

-- x is read by a mark of the row
record ReadIn (l : List ℕ) (x : Letter) : Type 0 where
  mark : ℕ
  stands : mark ∈ l
  below : mark < 0x80
  reads : x ≡ mark_letter mark

abbrev Suffix : List ℕ → List ℕ → Type 0
Suffix r l = (b : ℕ) → b ∈ r → b ∈ l

later : {l r : List ℕ} {x : Letter} → Suffix r l → ReadIn r x → ReadIn l x
later s q = record { mark = q.mark; stands = s q.mark q.stands; below = q.below; reads = q.reads }

mutual
  atom-rest : {d n m : ℕ} {l r : List ℕ} {e : Tree} → Atom d n l e m r → Suffix r l
  atom-rest (letter h) b i = Memᴰ.tail i
  atom-rest (bracket p x q) b i = Memᴰ.tail (expression-rest x b (Memᴰ.tail i))

  item-rest : {d n m : ℕ} {l r : List ℕ} {e : Tree} → Item d n l e m r → Suffix r l
  item-rest (once x) b i = atom-rest x b i
  item-rest (repeated x q) b i = atom-rest x b (Memᴰ.tail i)

  items-rest : {d n m : ℕ} {l r : List ℕ} {e f : Tree} → Items d n e l m f r → Suffix r l
  items-rest no_item b i = i
  items-rest (item x y) b i = item-rest x b (items-rest y b i)

  sequence-rest : {d n m : ℕ} {l r : List ℕ} {e : Tree} → Sequence d n l e m r → Suffix r l
  sequence-rest (items x y) b i = item-rest x b (items-rest y b i)

  sequences-rest : {d n m : ℕ} {l r : List ℕ} {e f : Tree} → Sequences d n e l m f r → Suffix r l
  sequences-rest no_sequence b i = i
  sequences-rest (or_else p x y) b i = Memᴰ.tail (sequence-rest x b (sequences-rest y b i))

  expression-rest : {d n m : ℕ} {l r : List ℕ} {e : Tree} → Expression d n l e m r → Suffix r l
  expression-rest (sequences x y) b i = sequence-rest x b (sequences-rest y b i)

-- what is read in the items so far, or in those to come
onward : {A : Type 0} {l r : List ℕ} {x : Letter} → Suffix r l → (A → ReadIn l x) → A ⊎ ReadIn r x → ReadIn l x
onward s f (inl a) = f a
onward s f (inr q) = later s q

mutual
  atom-read : {d n m : ℕ} {l r : List ℕ} {e : Tree} → Atom d n l e m r → {k : ℕ} {x : Letter} → MarkReads e k x → ReadIn l x
  atom-read (letter {b = b} h) (itself p q) = record { mark = b; stands = Memᴰ.head refl; below = h; reads = q }
  atom-read (bracket p y q) h = later (λ b i. Memᴰ.tail i) (expression-read y h)

  item-read : {d n m : ℕ} {l r : List ℕ} {e : Tree} → Item d n l e m r → {k : ℕ} {x : Letter} → MarkReads e k x → ReadIn l x
  item-read (once y) h = atom-read y h
  item-read (repeated y q) (in_many h) = atom-read y h

  items-read : {d n m : ℕ} {l r : List ℕ} {e f : Tree} → Items d n e l m f r → {k : ℕ} {x : Letter} → MarkReads f k x → MarkReads e k x ⊎ ReadIn l x
  items-read no_item h = inl h
  items-read (item {l = l} {s = s} {e = e} {f = f} i y) {k = k} {x = x} h = apart (items-read y h) (λ w. item-read i w)
    where
      apart : MarkReads (both e f) k x ⊎ ReadIn s x → (MarkReads f k x → ReadIn l x) → MarkReads e k x ⊎ ReadIn l x
      apart (inl (in_first w)) g = inl w
      apart (inl (in_second w)) g = inr (g w)
      apart (inr q) g = inr (later (item-rest i) q)

  sequence-read : {d n m : ℕ} {l r : List ℕ} {e : Tree} → Sequence d n l e m r → {k : ℕ} {x : Letter} → MarkReads e k x → ReadIn l x
  sequence-read (items i y) h = onward (item-rest i) (λ w. item-read i w) (items-read y h)

  sequences-read : {d n m : ℕ} {l r : List ℕ} {e f : Tree} → Sequences d n e l m f r → {k : ℕ} {x : Letter} → MarkReads f k x → MarkReads e k x ⊎ ReadIn l x
  sequences-read no_sequence h = inl h
  sequences-read (or_else {c = c} {l = l} {s = s} {e = e} {f = f} p i y) {k = k} {x = x} h = apart (sequences-read y h) (λ w. sequence-read i w)
    where
      apart : MarkReads (either e f) k x ⊎ ReadIn s x → (MarkReads f k x → ReadIn l x) → MarkReads e k x ⊎ ReadIn (c ∷ l) x
      apart (inl (in_this w)) g = inl w
      apart (inl (in_that w)) g = inr (later (λ b j. Memᴰ.tail j) (g w))
      apart (inr q) g = inr (later (λ b j. Memᴰ.tail (sequence-rest i b j)) q)

  expression-read : {d n m : ℕ} {l r : List ℕ} {e : Tree} → Expression d n l e m r → {k : ℕ} {x : Letter} → MarkReads e k x → ReadIn l x
  expression-read (sequences i y) h = onward (sequence-rest i) (λ w. sequence-read i w) (sequences-read y h)

-- a list that rises below a bound is no longer than it
few : {A : Type 0} (rank : A → ℕ) (l : List A) (b n : ℕ) → b ≤ n → Rises rank l → ((y : A) → y ∈ l → b ≤ rank y) → ((y : A) → y ∈ l → rank y < n) → length l + b ≤ n
few rank [] b n h r low high = omega arith
few rank (x ∷ l) b n h (begins f r) low high =
    let a = low x (Memᴰ.head refl) in
    let c = high x (Memᴰ.head refl) in
    let z = few rank l (suc (rank x)) n c r f (λ y m. high y (Memᴰ.tail m)) in
    omega arith

kind-at : (l : List Step) (k : ℕ) → k < length l → slice_index (flat_map step_numbers l) (4 * k + 0) ≤ 1
kind-at [] k h = absurd (omega arith)
kind-at (step s (role S) t ∷ l) zero h = omega arith
kind-at (step s (test A) t ∷ l) zero h = omega arith
kind-at (x ∷ l) (suc k) h =
    let z : 4 * suc k + 0 ≡ length (step_numbers x) + (4 * k + 0) = omega (arith, length-step x) in
    let w = kind-at l k (omega arith) in
    rw (z, get_or-append-add (step_numbers x) (flat_map step_numbers l) (4 * k + 0) 0) w

module _ {row : List ℕ} (a : Listed) (x : IsAutomatonOf row a) where
  numbered : Numbered 0 x.tree x.marks
  numbered = expression-numbered x.is.reads

  into : {j k : ℕ} → MayPrecede x.tree j k → (j ≤ x.marks) × (k ≤ x.marks)
  into (start h) = (omega arith, (first-in numbered h).high)
  into (after h) = ((next-from numbered h).high, (next-to numbered h).high)

  ends : {k : ℕ} → EndsAt x.tree k → k ≤ x.marks
  ends (nothing h) = omega arith
  ends (ending h) = (last-in numbered h).high

  step-into : (s : State) (l : Letter) (t : State) → step s l t ∈ steps_of a → StepsInto x.tree s.0 l t.0
  step-into s l t m = (x.lists.are.steps s l t).0 m

  rank-below : (y : Step) → y ∈ steps_of a → step_rank y < places
  rank-below (step s l t) m = let w = into (step-into s l t m).before in let f = x.few in let p = w.0 in let q = w.1 in omega arith

  final-below : (t : State) → t ∈ finals_of a → t.0 < most_states
  final-below t m = let w = ends ((x.lists.are.finals t).0 m) in let f = x.few in omega arith

  steps-long : length a.steps ≡ 4 * length (steps_of a)
  steps-long = ap length x.lists.steps_only ∙ length-steps (steps_of a)

  finals-long : length a.finals ≡ length (finals_of a)
  finals-long = ap length x.lists.finals_only ∙ length-map (finals_of a) final_number

  -- THEOREM: its tables are whole, and each kind is 0 or 1
  pub fits-tables : FitsTables a
  unfolding records
  fits-tables =
      let p = few step_rank (steps_of a) 0 places (omega arith) x.lists.steps_rise (λ y m. omega arith) rank-below in
      let q = few final_number (finals_of a) 0 most_states (omega arith) x.lists.finals_rise (λ y m. omega arith) final-below in
      record {
        steps = record { unbroken = omega (arith, steps-long); few = omega (arith, steps-long) };
        finals = record { unbroken = omega arith; few = omega (arith, finals-long) };
        step_kinds = λ k m.
            let w = numbered-out (λ j. field step_width a.steps 0 j) (length a.steps / 4) m in
            let o = x.lists.steps_only in
            let h = w.1 in
            let g = kind-at (steps_of a) w.0 (omega (arith, steps-long)) in
            rw w.2 (rw (sym o) at g);
      }

  -- THEOREM: every number in them is declared where the row's marks are
  pub needs-marks : NeedsMarks row a
  needs-marks c states marks =
      record {
        steps = λ y m. declared y m;
        finals = λ t m. let w = ends ((x.lists.are.finals t).0 m) in let s = x.states in omega arith;
      }
    where
      declared : (y : Step) → y ∈ steps_of a → StepDeclared c y
      declared (step s l t) m =
          let i = step-into s l t m in
          let w = into i.before in
          let p = w.0 in
          let q = w.1 in
          let z = x.states in
          let r = expression-read x.is.reads i.reads in
          let f = r.reads in
          (omega arith, rw f (marks.each r.mark r.stands r.below), omega arith)
