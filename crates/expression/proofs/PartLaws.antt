-- What is known of a mark, of two parts in sequence, of one or the other, and of one any number of times.
use Rattle.std.specs.Prelude.{◌≡◌, refl, ◌⊎◌, true, false, ◌||◌, ◌&&◌, List, ℕ, suc, ◌+◌, ◌<◌, ◌≤◌, slice_index_or}
use Rattle.std.proofs.Common.{sym, ap, ◌∙◌, inl, inr, ⊎_elim, arith}
use Rattle.std.proofs.lemmas.Bool.{false≢true}
use Rattle.laws.specs.Iff.{iff_then, iff_both, iff_either}
use Rattle.laws.specs.Loops.{add_as, add_then}
use Rattle.laws.specs.Truth.{and_true, or_true}
use Rattle.kinds.specs.Kinds.{most_states}
use Rattle.meaning.specs.Collection.{Letter}
use Rattle.sets.specs.Bits.{IsUnion}
use Rattle.sets.specs.declared.states.StateSet.{StateSet}
use Rattle.expression.specs.Marks.{mark_letter}
use Rattle.expression.specs.Tree.{Tree, mark, both, either, many}
use Rattle.expression.specs.Tree.{MarkReads, itself, in_first, in_second, in_this, in_that, in_many}
use Rattle.expression.specs.Tree.{AllowsEmpty, empty_both, empty_this, empty_that, empty_many}
use Rattle.expression.specs.Tree.{CanBeFirst, first, first_left, first_right, first_this, first_that, first_many}
use Rattle.expression.specs.Tree.{CanBeLast, last, last_left, last_right, last_this, last_that, last_many}
use Rattle.expression.specs.Tree.{CanFollow, follow_left, follow_right, follow_over, follow_this, follow_that, follow_many, follow_again}
use Rattle.expression.specs.Numbered.{number, numbers, numbers_or, numbers_many}
use Rattle.expression.specs.Parts.{IsAlone, IsWhen, Leads, Notes, Knows, IsJoined, IsEither, IsMany}
use Rattle.expression.specs.declared.parts.Part.{Part}
use Rattle.expression.proofs.Words.{rises, reads-in}

-- how each relation comes apart
abbrev NotMark : Tree → Type 0
NotMark (mark k l) = ⊥
NotMark (both e f) = Unit {0}
NotMark (either e f) = Unit {0}
NotMark (many e) = Unit {0}

no-empty : {e : Tree} → AllowsEmpty e → NotMark e
no-empty (empty_both a b) = tt
no-empty (empty_this a) = tt
no-empty (empty_that a) = tt
no-empty empty_many = tt

reads-is : {j k : ℕ} {l m : Letter} → MarkReads (mark j m) k l → (k ≡ j) × (l ≡ m)
reads-is (itself e q) = (e, q)

first-is : {j k : ℕ} {l : Letter} → CanBeFirst (mark j l) k → k ≡ j
first-is (first e) = e

last-is : {j k : ℕ} {l : Letter} → CanBeLast (mark j l) k → k ≡ j
last-is (last e) = e

no-follow : {e : Tree} {j k : ℕ} → CanFollow e j k → NotMark e
no-follow (follow_left a) = tt
no-follow (follow_right a) = tt
no-follow (follow_over a b) = tt
no-follow (follow_this a) = tt
no-follow (follow_that a) = tt
no-follow (follow_many a) = tt
no-follow (follow_again a b) = tt

both-empties : {e f : Tree} → AllowsEmpty (both e f) → AllowsEmpty e × AllowsEmpty f
both-empties (empty_both a b) = (a, b)

either-empties : {e f : Tree} → AllowsEmpty (either e f) → AllowsEmpty e ⊎ AllowsEmpty f
either-empties (empty_this a) = inl a
either-empties (empty_that a) = inr a

both-reads : {e f : Tree} {k : ℕ} {l : Letter} → MarkReads (both e f) k l → MarkReads e k l ⊎ MarkReads f k l
both-reads (in_first a) = inl a
both-reads (in_second a) = inr a

either-reads : {e f : Tree} {k : ℕ} {l : Letter} → MarkReads (either e f) k l → MarkReads e k l ⊎ MarkReads f k l
either-reads (in_this a) = inl a
either-reads (in_that a) = inr a

many-reads : {e : Tree} {k : ℕ} {l : Letter} → MarkReads (many e) k l → MarkReads e k l
many-reads (in_many a) = a

both-firsts : {e f : Tree} {k : ℕ} → CanBeFirst (both e f) k → CanBeFirst e k ⊎ (AllowsEmpty e × CanBeFirst f k)
both-firsts (first_left a) = inl a
both-firsts (first_right z a) = inr (z, a)

either-firsts : {e f : Tree} {k : ℕ} → CanBeFirst (either e f) k → CanBeFirst e k ⊎ CanBeFirst f k
either-firsts (first_this a) = inl a
either-firsts (first_that a) = inr a

many-firsts : {e : Tree} {k : ℕ} → CanBeFirst (many e) k → CanBeFirst e k
many-firsts (first_many a) = a

both-lasts : {e f : Tree} {k : ℕ} → CanBeLast (both e f) k → (AllowsEmpty f × CanBeLast e k) ⊎ CanBeLast f k
both-lasts (last_left a z) = inl (z, a)
both-lasts (last_right a) = inr a

either-lasts : {e f : Tree} {k : ℕ} → CanBeLast (either e f) k → CanBeLast e k ⊎ CanBeLast f k
either-lasts (last_this a) = inl a
either-lasts (last_that a) = inr a

many-lasts : {e : Tree} {k : ℕ} → CanBeLast (many e) k → CanBeLast e k
many-lasts (last_many a) = a

both-follows : {e f : Tree} {j k : ℕ} → CanFollow (both e f) j k → (CanFollow e j k ⊎ CanFollow f j k) ⊎ (CanBeLast e j × CanBeFirst f k)
both-follows (follow_left a) = inl (inl a)
both-follows (follow_right a) = inl (inr a)
both-follows (follow_over a b) = inr (a, b)

either-follows : {e f : Tree} {j k : ℕ} → CanFollow (either e f) j k → CanFollow e j k ⊎ CanFollow f j k
either-follows (follow_this a) = inl a
either-follows (follow_that a) = inr a

many-follows : {e : Tree} {j k : ℕ} → CanFollow (many e) j k → CanFollow e j k ⊎ (CanBeLast e j × CanBeFirst e k)
many-follows (follow_many a) = inl a
many-follows (follow_again a b) = inr (a, b)

-- a mark
module _ (old : List StateSet) (was now : List ℕ) (n b : ℕ) (m : StateSet) (it : IsAlone (n + 1) m) (p : Part) (w : Notes was (n + 1) b now) where
  pub knows-mark : p.empty ≡ false → p.first ≡ m → p.last ≡ m → Knows n old was (mark (suc n) (mark_letter b)) p (n + 1) old now
  knows-mark e f l =
      record {
        numbered = number refl (omega arith);
        empty = rw e (λ h. absurd (false≢true h), λ h. absurd (no-empty h));
        first = rw f (record { at = λ k h. (λ x. first (is k ((it.at k h).0 x)), λ x. (it.at k h).1 (to k (first-is x))) });
        last = rw l (record { at = λ k h. (λ x. last (is k ((it.at k h).0 x)), λ x. (it.at k h).1 (to k (last-is x))) });
        rows = λ j k h i. (λ x. inl x, ⊎_elim (λ x. x) (λ x. absurd (no-follow x)));
        reads = λ k l h x. let r = reads-is x in let z = to k r.0 in let y : k < most_states → slice_index_or now k 0 ≡ b = rw z w.here in r.1 ∙ ap mark_letter (sym (y h));
        kept = λ k h. w.others k (λ z. omega arith);
      }
    where
      is : (k : ℕ) → k ≡ n + 1 → k ≡ suc n
      is k z = omega arith

      to : (k : ℕ) → k ≡ suc n → k ≡ n + 1
      to k z = omega arith

-- any number of times
module _ (n m : ℕ) (old before after : List StateSet) (was now : List ℕ) (e : Tree) (p r : Part) (t : Knows n old was e p m before now) where
  many-knows : r.empty ≡ true → r.first ≡ p.first → r.last ≡ p.last → Leads before p.last p.first after → Knows n old was (many e) r m after now
  many-knows z f l s =
      record {
        numbered = numbers_many t.numbered;
        empty = rw z (λ h. empty_many, λ h. refl);
        first = rw f (record { at = λ k h. iff_then (t.first.at k h) (λ x. first_many x, many-firsts) });
        last = rw l (record { at = λ k h. iff_then (t.last.at k h) (λ x. last_many x, many-lasts) });
        rows = λ j k h i.
            add_as (⊎_elim (λ x. follow_many x) (λ x. follow_again x.0 x.1), many-follows)
            (add_then (t.rows j k h i) (add_as (iff_both (t.last.at j h) (t.first.at k i)) (s.at j k h)));
        reads = λ k l h x. t.reads k l h (many-reads x);
        kept = t.kept;
      }

-- two in sequence, and one or the other
module _ (n h m : ℕ) (old mid before : List StateSet) (was half now : List ℕ) (e f : Tree) (p q r : Part) (t : Knows n old was e p h mid half) (u : Knows h mid half f q m before now) where
  kept-both : (k : ℕ) → k ≤ n → slice_index_or now k 0 ≡ slice_index_or was k 0
  kept-both k i = u.kept k (let a = rises t.numbered in omega arith) ∙ t.kept k i

  reads-both : (k : ℕ) (l : Letter) → k < most_states → MarkReads e k l ⊎ MarkReads f k l → l ≡ mark_letter (slice_index_or now k 0)
  reads-both k l i (inl x) = t.reads k l i x ∙ ap mark_letter (sym (u.kept k (reads-in t.numbered x).high))
  reads-both k l i (inr x) = u.reads k l i x

  module _ (after : List StateSet) (a b : StateSet) (x : IsWhen p.empty q.first a) (y : IsWhen q.empty p.last b) where
    both-knows : r.empty ≡ p.empty && q.empty → IsUnion p.first.0 a.0 r.first.0 → IsUnion b.0 q.last.0 r.last.0
        → Leads before p.last q.first after → Knows n old was (both e f) r m after now
    both-knows z g l s =
        record {
          numbered = numbers t.numbered u.numbered;
          empty = rw z (iff_then (and_true p.empty q.empty) (iff_then (iff_both t.empty u.empty) (λ w. empty_both w.0 w.1, both-empties)));
          first = record {
            at = λ k i.
                iff_then (g.member k)
                (iff_then (iff_either (t.first.at k i) (iff_then (x.member k) (iff_both t.empty (u.first.at k i))))
                (⊎_elim (λ v. first_left v) (λ v. first_right v.0 v.1), both-firsts));
          };
          last = record {
            at = λ k i.
                iff_then (l.member k)
                (iff_then (iff_either (iff_then (y.member k) (iff_both u.empty (t.last.at k i))) (u.last.at k i))
                (⊎_elim (λ v. last_left v.1 v.0) (λ v. last_right v), both-lasts));
          };
          rows = λ j k d i.
              add_as (⊎_elim (⊎_elim (λ w. follow_left w) (λ w. follow_right w)) (λ w. follow_over w.0 w.1), both-follows)
              (add_then (add_then (t.rows j k d i) (u.rows j k d i)) (add_as (iff_both (t.last.at j d) (u.first.at k i)) (s.at j k d)));
          reads = λ k l i v. reads-both k l i (both-reads v);
          kept = kept-both;
        }

  either-knows : r.empty ≡ p.empty || q.empty → IsUnion p.first.0 q.first.0 r.first.0 → IsUnion p.last.0 q.last.0 r.last.0
      → Knows n old was (either e f) r m before now
  either-knows z g l =
      record {
        numbered = numbers_or t.numbered u.numbered;
        empty =
            rw z
            (iff_then (or_true p.empty q.empty)
            (iff_then (iff_either t.empty u.empty) (⊎_elim (λ w. empty_this w) (λ w. empty_that w), either-empties)));
        first = record {
          at = λ k i.
              iff_then (g.member k)
              (iff_then (iff_either (t.first.at k i) (u.first.at k i)) (⊎_elim (λ v. first_this v) (λ v. first_that v), either-firsts));
        };
        last = record {
          at = λ k i.
              iff_then (l.member k)
              (iff_then (iff_either (t.last.at k i) (u.last.at k i)) (⊎_elim (λ v. last_this v) (λ v. last_that v), either-lasts));
        };
        rows = λ j k d i.
            add_as (⊎_elim (λ w. follow_this w) (λ w. follow_that w), either-follows) (add_then (t.rows j k d i) (u.rows j k d i));
        reads = λ k l i v. reads-both k l i (either-reads v);
        kept = kept-both;
      }

-- what the code makes
pub is_many : (before after : List StateSet) (p r : Part) → r.empty ≡ true → r.first ≡ p.first → r.last ≡ p.last → Leads before p.last p.first after → IsMany p before after r
is_many before after p r z f l s = record { knows = λ n m old was now e t. many-knows n m old before after was now e p r t z f l s }

pub is_joined : (before after : List StateSet) (p q r : Part) {a b : StateSet} → IsWhen p.empty q.first a → IsWhen q.empty p.last b → r.empty ≡ p.empty && q.empty
    → IsUnion p.first.0 a.0 r.first.0 → IsUnion b.0 q.last.0 r.last.0 → Leads before p.last q.first after → IsJoined p q before after r
is_joined before after p q r {a} {b} x y z f l s =
    record { knows = λ n h m old mid was half now e g t u. both-knows n h m old mid before was half now e g p q r t u after a b x y z f l s }

pub is_either : (p q r : Part) → r.empty ≡ p.empty || q.empty → IsUnion p.first.0 q.first.0 r.first.0 → IsUnion p.last.0 q.last.0 r.last.0 → IsEither p q r
is_either p q r z f l = record { knows = λ n h m old mid rows was half now e g t u. either-knows n h m old mid rows was half now e g p q r t u z f l }
