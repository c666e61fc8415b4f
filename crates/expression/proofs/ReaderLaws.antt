-- The laws of the reader's steps: an atom, and an item.
use Rattle.std.specs.Prelude.{◌≡◌, refl, false, List, ◌∷◌, ℕ, suc, ◌+◌, ◌-◌, ◌<◌, ◌≤◌, length, slice_index_or, drop}
use Rattle.std.proofs.Common.{sym, ap, ◌∙◌, arith, add-one, drop_of_length-le, drop-cons}
use Rattle.std.proofs.Math.Decide.{dec_lt}
use Rattle.sets.specs.declared.states.StateSet.{StateSet}
use Rattle.expression.specs.Marks.{mark_letter}
use Rattle.expression.specs.Tree.{Tree, mark, many}
use Rattle.expression.specs.Grammar.{Atom, letter, bracket, Item, once, repeated, Expression}
use Rattle.expression.specs.Ends.{next, ItemEnds, ExpressionEnds, IsSame}
use Rattle.expression.proofs.Once.{atom-starts, closes, atom-once}
use Rattle.expression.specs.Parts.{IsAlone, Notes, IsMany}
use Rattle.expression.specs.Reader.{Reads, Nothing, Anything}
use Rattle.expression.specs.declared.parts.Part.{Part}
use Rattle.expression.proofs.PartLaws.{knows-mark}

-- the row from a place on
module _ (s : List ℕ) (at : ℕ) where
  pub in_row : (next (drop at s) ≡ 0x81 → ⊥) → at < length s
  in_row h =
      elim (dec_lt at (length s)) [ yes l ↦ l | no l ↦ absurd (h (ap next (drop_of_length-le s {i = at} (omega arith)))) ]

  pub row_cons : at < length s → drop at s ≡ slice_index_or s at 0x81 ∷ drop (at + 1) s
  row_cons h = rw (add-one, drop-cons s at 0x81) refl

  pub row_next : at < length s → next (drop at s) ≡ slice_index_or s at 0x81
  row_next h = ap next (row_cons h)

  pub row_here : (next (drop at s) ≡ 0x81 → ⊥) → drop at s ≡ next (drop at s) ∷ drop (at + 1) s
  row_here h = let l = in_row h in row_cons l ∙ ap (λ (b : ℕ). b ∷ drop (at + 1) s) (sym (row_next l))

  pub row_inside : {c : ℕ} {r : List ℕ} → drop at s ≡ c ∷ r → at < length s
  row_inside {c} {r} h =
      elim (dec_lt at (length s)) [
        | yes l ↦ l
        | no l ↦
            let e = sym (drop_of_length-le s {i = at} (omega arith)) ∙ h in
            absurd (let z : ◌≡◌ {A = ℕ} 0 1 = cc in omega arith)
      ]

  pub row-tail : {c : ℕ} {r : List ℕ} → drop at s ≡ c ∷ r → drop (at + 1) s ≡ r
  row-tail {c} {r} h = let e = sym (row_cons (row_inside h)) ∙ h in cc

from-letter : {d n b k : ℕ} {l r : List ℕ} → l ≡ b ∷ r → k ≡ suc n → b < 0x80 → Atom d n l (mark (suc n) (mark_letter b)) k r
from-letter e q h = rw (e, q) (letter h)

atom-shallow : {d n m : ℕ} {l r : List ℕ} {e : Tree} → Atom d n l e m r → d ≡ 0 → next l < 0x80
atom-shallow (letter h) z = h
atom-shallow (bracket p x q) z = absurd (omega arith)

atom-inside : {d k n m b : ℕ} {l t r : List ℕ} {e : Tree} → Atom k n l e m r → k ≡ suc d → l ≡ b ∷ t → b ≡ 0x80
    → (c : ℕ) × (c ≡ 0x81) × Expression d n t e m (c ∷ r)
atom-inside (letter h) z e q = absurd (let a = ap next e in omega arith)
atom-inside {d = d} {t = t} (bracket {d = k} {c = c} {l = u} p x q) z e w =
    let a : k ≡ d = omega arith in
    let b : u ≡ t = cc in
    (c, q, rw (a, b) at x)

from-bracket : {d n m b c : ℕ} {k l r t : List ℕ} {e : Tree} → l ≡ b ∷ k → b ≡ 0x80 → Expression d n k e m t → t ≡ c ∷ r → c ≡ 0x81 → Atom (suc d) n l e m r
from-bracket p q x u v = rw p (bracket q (rw u at x) v)

anything : {l : List ℕ} → Anything l
anything = record { it = tt }

module _ (s : List ℕ) (at n : ℕ) where
  -- a role or test mark
  pub atom-letter : (old : List StateSet) (was now : List ℕ) (a : Part) {m : StateSet} {b : ℕ} (d : ℕ) → n ≤ at → b ≡ next (drop at s) → b < 0x80 → IsAlone (n + 1) m
      → Notes was (n + 1) b now → a.empty ≡ false → a.first ≡ m → a.last ≡ m → Reads (Atom d) Anything s at n old was (at + 1) (n + 1) a old now
  atom-letter old was now a {m} {b} d few y h w v e f l =
      let i = in_row s at (λ q. omega arith) in
      let o = row_here s at (λ q. omega arith) in
      let x : Atom d n (drop at s) (mark (suc n) (mark_letter (next (drop at s)))) (n + 1) (drop (at + 1) s) = from-letter o (add-one n) (omega arith) in
      record {
        tree = mark (suc n) (mark_letter (next (drop at s)));
        reads = x;
        knows = knows-mark old was now n (next (drop at s)) m w a (rw y at v) e f l;
        within = omega arith;
        fewer = omega arith;
        only = λ e m r y u. atom-once x y;
      }

  -- no atom begins here
  pub atom-not : (d : ℕ) → 0x80 < next (drop at s) → Nothing (Atom d) Anything s at n
  atom-not d h = record { none = λ e m r x y. let a = atom-starts x in omega arith }

  pub atom-deep : (d : ℕ) → 0x80 ≤ next (drop at s) → d ≡ 0 → Nothing (Atom d) Anything s at n
  atom-deep d h z = record { none = λ e m r x y. let a = atom-shallow x z in omega arith }

  -- an opening bracket
  module _ (d : ℕ) (opened : next (drop at s) ≡ 0x80) where
    inside : (e : Tree) (m : ℕ) (t : List ℕ) → Atom (suc d) n (drop at s) e m t → (c : ℕ) × (c ≡ 0x81) × Expression d n (drop (at + 1) s) e m (c ∷ t)
    inside e m t x = atom-inside x refl (row_here s at (λ q. omega arith)) opened

    empty-brackets : Nothing (Expression d) ExpressionEnds s (at + 1) n → Nothing (Atom (suc d)) Anything s at n
    empty-brackets f = record { none = λ e m r x y. let w = inside e m r x in f.none e m (w.0 ∷ r) w.2 (closes w.1) }

    module _ (old : List StateSet) (was : List ℕ) (p c : ℕ) (a : Part) (new : List StateSet) (now : List ℕ) (g : Reads (Expression d) ExpressionEnds s (at + 1) n old was p c a new now) where
      within-brackets : (e : Tree) (m : ℕ) (t : List ℕ) → Atom (suc d) n (drop at s) e m t → (b : ℕ) × (b ≡ 0x81) × IsSame g.tree e c m (drop p s) (b ∷ t)
      within-brackets e m t x = let w = inside e m t x in (w.0, w.1, g.only e m (w.0 ∷ t) w.2 (closes w.1))

      unclosed : (p < length s → next (drop p s) ≡ 0x81 → ⊥) → Nothing (Atom (suc d)) Anything s at n
      unclosed h = record {
        none = λ e m t x y. let w = within-brackets e m t x in h (row_inside s p w.2.rest) (ap next w.2.rest ∙ w.1);
      }

      closed : p < length s → next (drop p s) ≡ 0x81 → Reads (Atom (suc d)) Anything s at n old was (p + 1) c a new now
      closed l q =
          let w = row_here s at (λ q. omega arith) in
          let o = row_cons s p l in
          let f = g.fewer in
          record {
            tree = g.tree;
            reads = from-bracket w opened g.reads o (sym (row_next s p l) ∙ q);
            knows = g.knows;
            within = omega arith;
            fewer = omega arith;
            only = λ e m t x y. let v = within-brackets e m t x in record { tree = v.2.tree; count = v.2.count; rest = row-tail s p v.2.rest };
          }

-- the same at a depth that falls by one
module _ (s : List ℕ) (at n d : ℕ) (deep : d ≡ 0 → ⊥) (opened : next (drop at s) ≡ 0x80) where
  down : suc (d - 1) ≡ d
  down = omega arith

  pub atom-empty : Nothing (Expression (d - 1)) ExpressionEnds s (at + 1) n → Nothing (Atom d) Anything s at n
  atom-empty f = let k = down in let w = empty-brackets s at n (d - 1) opened f in rw k at w

  pub atom-unclosed : {old : List StateSet} {was : List ℕ} {p c : ℕ} {a : Part} {new : List StateSet} {now : List ℕ} → Reads (Expression (d - 1)) ExpressionEnds s (at + 1) n old was p c a new now
      → (p < length s → next (drop p s) ≡ 0x81 → ⊥) → Nothing (Atom d) Anything s at n
  atom-unclosed {old} {was} {p} {c} {a} {new} {now} g h = let k = down in let w = unclosed s at n (d - 1) opened old was p c a new now g h in rw k at w

  pub atom-closed : {old : List StateSet} {was : List ℕ} {p c : ℕ} {a : Part} {new : List StateSet} {now : List ℕ} → Reads (Expression (d - 1)) ExpressionEnds s (at + 1) n old was p c a new now
      → p < length s → next (drop p s) ≡ 0x81 → Reads (Atom d) Anything s at n old was (p + 1) c a new now
  atom-closed {old} {was} {p} {c} {a} {new} {now} g l q = let k = down in let w = closed s at n (d - 1) opened old was p c a new now g l q in rw k at w

-- an item: an atom, once or any number of times
module _ (d : ℕ) (s : List ℕ) (at n : ℕ) where
  pub item-none : Nothing (Atom d) Anything s at n → Nothing (Item d) ItemEnds s at n
  item-none f = record { none = λ e m r x y. none x }
    where
      none : {e : Tree} {m : ℕ} {r : List ℕ} → Item d n (drop at s) e m r → ⊥
      none {e} {m} {r} (once x) = f.none e m r x anything
      none {e} {m} {r} (repeated {c = c} {e = g} x q) = f.none g m (c ∷ r) x anything

  module _ {old : List StateSet} {was : List ℕ} {p c : ℕ} {a : Part} {new : List StateSet} {now : List ℕ} (g : Reads (Atom d) Anything s at n old was p c a new now) where
    pub item-once : (next (drop p s) ≡ 0x83 → ⊥) → Reads (Item d) ItemEnds s at n old was p c a new now
    item-once h =
        record { tree = g.tree; reads = once g.reads; knows = g.knows; within = g.within; fewer = g.fewer; only = λ e m t x y. found x y }
      where
        found : {e : Tree} {m : ℕ} {t : List ℕ} → Item d n (drop at s) e m t → ItemEnds t → IsSame g.tree e c m (drop p s) t
        found {e} {m} {t} (once x) y = g.only e m t x anything
        found {e} {m} {t} (repeated {c = b} {e = f} x q) y = absurd (h (ap next (g.only f m (b ∷ t) x anything).rest ∙ q))

    pub item-many : {b : Part} {after : List StateSet} {q : ℕ} → q ≡ p + 1 → next (drop p s) ≡ 0x83 → IsMany a new after b
        → Reads (Item d) ItemEnds s at n old was q c b after now
    item-many {b} {after} {q} i h w =
        rw i
        let l = in_row s p (λ q. omega arith) in
        let z = row_here s p (λ q. omega arith) in
        let o = g.fewer in
        let x = g.reads in
        record {
          tree = many g.tree;
          reads = repeated (rw z at x) h;
          knows = w.knows n c old was now g.tree g.knows;
          within = omega arith;
          fewer = omega arith;
          only = λ e m t x y. found x y;
        }
      where
        found : {e : Tree} {m : ℕ} {t : List ℕ} → Item d n (drop at s) e m t → ItemEnds t → IsSame (many g.tree) e c m (drop (p + 1) s) t
        found {e} {m} {t} (once x) y = let o = g.only e m t x anything in absurd (y.no_repeat (ap next (sym o.rest) ∙ h))
        found {e} {m} {t} (repeated {c = b} {e = f} x q) y =
            let o = g.only f m (b ∷ t) x anything in
            record { tree = ap (λ (i : Tree). many i) o.tree; count = o.count; rest = row-tail s p o.rest }
