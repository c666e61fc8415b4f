-- Where no place passes 8, an expression with brackets of any depth itself them at most 8 deep: the limit of `Is` refuses nothing more than 13 does.
use Rattle.std.specs.Prelude.{◌≡◌, List, [], ◌∷◌, ℕ, zero, suc, ◌+◌, ◌<◌, ◌≤◌, eqb, length, take}
use Rattle.std.proofs.Math.Path.{refl}
use Rattle.std.proofs.Common.{arith, eq-eqb, ne_eqb}
use Rattle.std.proofs.Math.Decide.{dec_lt}
use Rattle.laws.specs.Count.{bit, count}
use Rattle.expression.specs.Tree.{Tree}
use Rattle.expression.specs.Grammar.{Atom, letter, bracket, Item, once, repeated, Sequence, items, Items, no_item, item}
use Rattle.expression.specs.Grammar.{Expression, sequences, Sequences, no_sequence, or_else, IsExpression}
use Rattle.expression.specs.Depth.{times, TooDeep}

-- read from here, opened less closed brackets never pass d
record Fine (d : ℕ) (l : List ℕ) : Type 0 where
  at : (i : ℕ) → i ≤ length l → times 0x80 (take i l) ≤ d + times 0x81 (take i l)

module _ (b : ℕ) (l : List ℕ) where
  first : (c i : ℕ) → times c (take (suc i) (b ∷ l)) ≡ bit (eqb b c) + times c (take i l)
  unfolding count
  first c i = refl

  none : (c : ℕ) → (b ≡ c → ⊥) → bit (eqb b c) ≡ 0
  none c h = rw (ne_eqb b c h) refl

  some : (c : ℕ) → b ≡ c → bit (eqb b c) ≡ 1
  some c h = rw (eq-eqb b c h) refl

  fine-past : {d : ℕ} → (b ≡ 0x80 → ⊥) → (b ≡ 0x81 → ⊥) → Fine d (b ∷ l) → Fine d l
  fine-past h k f = record { at = λ i m. omega (arith, f.at (suc i) (omega arith), first 0x80 i, first 0x81 i, none 0x80 h, none 0x81 k) }

  fine-close : {d : ℕ} → b ≡ 0x81 → Fine d (b ∷ l) → Fine (suc d) l
  fine-close h f = record { at = λ i m. omega (arith, f.at (suc i) (omega arith), first 0x80 i, first 0x81 i, none 0x80 (λ e. omega arith), some 0x81 h) }

  fine-room : {d : ℕ} → b ≡ 0x80 → Fine d (b ∷ l) → 0 < d
  unfolding count
  fine-room h f = omega (arith, f.at 1 (omega arith), first 0x80 0, first 0x81 0, some 0x80 h, none 0x81 (λ e. omega arith))

  fine-open : {d : ℕ} → b ≡ 0x80 → Fine (suc d) (b ∷ l) → Fine d l
  fine-open h f = record { at = λ i m. omega (arith, f.at (suc i) (omega arith), first 0x80 i, first 0x81 i, some 0x80 h, none 0x81 (λ e. omega arith)) }

mutual
  atom-any : {d n m : ℕ} {l r : List ℕ} {e : Tree} → Atom d n l e m r → (c : ℕ) → Fine c l → Atom c n l e m r × Fine c r
  atom-any (letter {b = b} {r = r} h) c f = (letter h, fine-past b r (λ e. omega arith) (λ e. omega arith) f)
  atom-any (bracket {n = n} {m = m} {b = b} {c = k} {l = l} {r = r} {e = e} p x q) c f = side c f (λ c f. expression-any x c f)
    where
      side : (c : ℕ) → Fine c (b ∷ l) → ((c : ℕ) → Fine c l → Expression c n l e m (k ∷ r) × Fine c (k ∷ r)) → Atom c n (b ∷ l) e m r × Fine c r
      side zero f h = absurd (let z = fine-room b l p f in omega arith)
      side (suc c) f h = let w = h c (fine-open b l p f) in (bracket p w.0 q, fine-close k r q w.1)

  item-any : {d n m : ℕ} {l r : List ℕ} {e : Tree} → Item d n l e m r → (c : ℕ) → Fine c l → Item c n l e m r × Fine c r
  item-any (once x) c f = let w = atom-any x c f in (once w.0, w.1)
  item-any (repeated {c = k} {r = r} x q) c f = let w = atom-any x c f in (repeated w.0 q, fine-past k r (λ e. omega arith) (λ e. omega arith) w.1)

  items-any : {d n m : ℕ} {l r : List ℕ} {e f : Tree} → Items d n e l m f r → (c : ℕ) → Fine c l → Items c n e l m f r × Fine c r
  items-any no_item c f = (no_item, f)
  items-any (item i x) c f =
      let w = item-any i c f in
      let v = items-any x c w.1 in
      (item w.0 v.0, v.1)

  sequence-any : {d n m : ℕ} {l r : List ℕ} {e : Tree} → Sequence d n l e m r → (c : ℕ) → Fine c l → Sequence c n l e m r × Fine c r
  sequence-any (items i x) c f =
      let w = item-any i c f in
      let v = items-any x c w.1 in
      (items w.0 v.0, v.1)

  sequences-any : {d n m : ℕ} {l r : List ℕ} {e f : Tree} → Sequences d n e l m f r → (c : ℕ) → Fine c l → Sequences c n e l m f r × Fine c r
  sequences-any no_sequence c f = (no_sequence, f)
  sequences-any (or_else {c = k} {l = l} p i x) c f =
      let w = sequence-any i c (fine-past k l (λ e. omega arith) (λ e. omega arith) f) in
      let v = sequences-any x c w.1 in
      (or_else p w.0 v.0, v.1)

  expression-any : {d n m : ℕ} {l r : List ℕ} {e : Tree} → Expression d n l e m r → (c : ℕ) → Fine c l → Expression c n l e m r × Fine c r
  expression-any (sequences i x) c f =
      let w = sequence-any i c f in
      let v = sequences-any x c w.1 in
      (sequences w.0 v.0, v.1)

fine : (row : List ℕ) → (TooDeep row → ⊥) → Fine 8 row
fine row h = record {
  at = λ i m.
      elim (dec_lt (times 0x81 (take i row) + 8) (times 0x80 (take i row))) [
        | yes p ↦ absurd (h (record { place = i; within = m; passes = record { over = p } }))
        | no p ↦ omega arith
      ];
}

-- THE LAW
pub any-depth : {d m : ℕ} {row : List ℕ} {e : Tree} → Expression d 0 row e m [] → (TooDeep row → ⊥) → IsExpression row e m
any-depth {row = row} x h = record { reads = (expression-any x 8 (fine row h)).0 }
