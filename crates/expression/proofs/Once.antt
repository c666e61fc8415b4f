-- A row of marks is at most one expression.
use Rattle.std.specs.Prelude.{◌≡◌, refl, List, [], ◌∷◌, ℕ, ◌≤◌}
use Rattle.std.proofs.Common.{sym, ap, ◌∙◌, arith}
use Rattle.expression.specs.Tree.{Tree, many}
use Rattle.expression.specs.Numbered.{Numbered, number, numbers, numbers_or, numbers_many}
use Rattle.expression.specs.Grammar.{Atom, letter, bracket, Item, once, repeated, Sequence, items, Items, no_item, item}
use Rattle.expression.specs.Grammar.{Expression, sequences, Sequences, no_sequence, or_else, IsExpression}
use Rattle.expression.specs.Ends.{next, ItemEnds, SequenceEnds, ExpressionEnds, IsSame}

pub sequence-item : {l : List ℕ} → SequenceEnds l → ItemEnds l
sequence-item h = record { no_repeat = h.no_repeat }

pub expression-sequence : {l : List ℕ} → ExpressionEnds l → SequenceEnds l
expression-sequence h = record { no_item = h.no_item; no_repeat = h.no_repeat }

-- an item begins with a role mark, a test mark or a bracket
pub atom-starts : {d n m : ℕ} {l r : List ℕ} {e : Tree} → Atom d n l e m r → next l ≤ 0x80
atom-starts (letter h) = omega arith
atom-starts (bracket p x q) = omega arith

pub item-starts : {d n m : ℕ} {l r : List ℕ} {e : Tree} → Item d n l e m r → next l ≤ 0x80
item-starts (once a) = atom-starts a
item-starts (repeated a p) = atom-starts a

pub items-end : {d n m : ℕ} {l r : List ℕ} {e f : Tree} → Items d n e l m f r → SequenceEnds r → ItemEnds l
items-end no_item h = sequence-item h
items-end (item i x) h = let a = item-starts i in record { no_repeat = λ q. omega arith }

pub sequences-end : {d n m : ℕ} {l r : List ℕ} {e f : Tree} → Sequences d n e l m f r → ExpressionEnds r → SequenceEnds l
sequences-end no_sequence h = expression-sequence h
sequences-end (or_else p i x) h = record { no_item = omega arith; no_repeat = λ q. omega arith }

-- a closing bracket, and the end of the row, end an expression
pub closes : {c : ℕ} {r : List ℕ} → c ≡ 0x81 → ExpressionEnds (c ∷ r)
closes p = record { no_item = omega arith; no_or = λ q. omega arith; no_repeat = λ q. omega arith }

pub at-end : ExpressionEnds []
at-end = record { no_item = omega arith; no_or = λ q. omega arith; no_repeat = λ q. omega arith }

tail-same : (b c : ℕ) (l r : List ℕ) → b ∷ l ≡ c ∷ r → l ≡ r
tail-same b c l r h = cc

mutual
  pub atom-once : {d n m k : ℕ} {l r t : List ℕ} {e f : Tree} → Atom d n l e m r → Atom d n l f k t → IsSame e f m k r t
  atom-once (letter h) (letter k) = record { tree = refl; count = refl; rest = refl }
  atom-once (letter h) (bracket p x q) = absurd (omega arith)
  atom-once (bracket p x q) (letter h) = absurd (omega arith)
  atom-once (bracket {c = c} {r = r} p x q) (bracket {c = a} {r = t} u y v) =
      let s = expression-once x y (closes q) (closes v) in
      record { tree = s.tree; count = s.count; rest = tail-same c a r t s.rest }

  pub item-once : {d n m k : ℕ} {l r t : List ℕ} {e f : Tree} → Item d n l e m r → Item d n l f k t → ItemEnds r → ItemEnds t → IsSame e f m k r t
  item-once (once x) (once y) h g = atom-once x y
  item-once (once x) (repeated {c = c} {r = t} y q) h g =
      absurd (h.no_repeat (ap next (atom-once x y).rest ∙ q))
  item-once (repeated x q) (once y) h g =
      absurd (g.no_repeat (ap next (sym (atom-once x y).rest) ∙ q))
  item-once (repeated {c = c} {r = r} x q) (repeated {c = a} {r = t} y v) h g =
      let s = atom-once x y in
      record { tree = ap (λ (z : Tree). many z) s.tree; count = s.count; rest = tail-same c a r t s.rest }

  pub items-once : {d n m k : ℕ} {l r t : List ℕ} {e f g : Tree} → Items d n e l m f r → Items d n e l k g t → SequenceEnds r → SequenceEnds t → IsSame f g m k r t
  items-once no_item no_item h g = record { tree = refl; count = refl; rest = refl }
  items-once no_item (item j y) h g = absurd (let a = item-starts j in let b = h.no_item in omega arith)
  items-once (item i x) no_item h g = absurd (let a = item-starts i in let b = g.no_item in omega arith)
  items-once (item {h = u} {s = s} {f = e} i x) (item {h = v} {s = z} {f = f} j y) h g =
      let q = item-once i j (items-end x h) (items-end y g) in
      let a = q.tree in
      let b = q.count in
      let c = q.rest in
      items-once x (rw (← a, ← b, ← c) at y) h g

  pub sequence-once : {d n m k : ℕ} {l r t : List ℕ} {f g : Tree} → Sequence d n l f m r → Sequence d n l g k t → SequenceEnds r → SequenceEnds t → IsSame f g m k r t
  sequence-once (items i x) (items j y) h g =
      let q = item-once i j (items-end x h) (items-end y g) in
      let a = q.tree in
      let b = q.count in
      let c = q.rest in
      items-once x (rw (← a, ← b, ← c) at y) h g

  pub sequences-once : {d n m k : ℕ} {l r t : List ℕ} {e f g : Tree} → Sequences d n e l m f r → Sequences d n e l k g t → ExpressionEnds r → ExpressionEnds t → IsSame f g m k r t
  sequences-once no_sequence no_sequence h g = record { tree = refl; count = refl; rest = refl }
  sequences-once no_sequence (or_else p j y) h g = absurd (h.no_or p)
  sequences-once (or_else p i x) no_sequence h g = absurd (g.no_or p)
  sequences-once (or_else p i x) (or_else u j y) h g =
      let q = sequence-once i j (sequences-end x h) (sequences-end y g) in
      let a = q.tree in
      let b = q.count in
      let c = q.rest in
      sequences-once x (rw (← a, ← b, ← c) at y) h g

  pub expression-once : {d n m k : ℕ} {l r t : List ℕ} {e f : Tree} → Expression d n l e m r → Expression d n l f k t → ExpressionEnds r → ExpressionEnds t → IsSame e f m k r t
  expression-once (sequences i x) (sequences j y) h g =
      let q = sequence-once i j (sequences-end x h) (sequences-end y g) in
      let a = q.tree in
      let b = q.count in
      let c = q.rest in
      sequences-once x (rw (← a, ← b, ← c) at y) h g

-- THE LAW: a row of marks is at most one expression
pub is-once : {row : List ℕ} {e f : Tree} {m k : ℕ} → IsExpression row e m → IsExpression row f k → (e ≡ f) × (m ≡ k)
is-once x y = let s = expression-once x.reads y.reads at-end at-end in (s.tree, s.count)

-- its marks are numbered in the order written
mutual
  atom-numbered : {d n m : ℕ} {l r : List ℕ} {e : Tree} → Atom d n l e m r → Numbered n e m
  atom-numbered (letter h) = number refl refl
  atom-numbered (bracket p x q) = expression-numbered x

  pub item-numbered : {d n m : ℕ} {l r : List ℕ} {e : Tree} → Item d n l e m r → Numbered n e m
  item-numbered (once x) = atom-numbered x
  item-numbered (repeated x q) = numbers_many (atom-numbered x)

  items-numbered : {d n h m : ℕ} {l r : List ℕ} {e f : Tree} → Items d h e l m f r → Numbered n e h → Numbered n f m
  items-numbered no_item c = c
  items-numbered (item i x) c = items-numbered x (numbers c (item-numbered i))

  pub sequence-numbered : {d n m : ℕ} {l r : List ℕ} {e : Tree} → Sequence d n l e m r → Numbered n e m
  sequence-numbered (items i x) = items-numbered x (item-numbered i)

  sequences-numbered : {d n h m : ℕ} {l r : List ℕ} {e f : Tree} → Sequences d h e l m f r → Numbered n e h → Numbered n f m
  sequences-numbered no_sequence c = c
  sequences-numbered (or_else p i x) c = sequences-numbered x (numbers_or c (sequence-numbered i))

  pub expression-numbered : {d n m : ℕ} {l r : List ℕ} {e : Tree} → Expression d n l e m r → Numbered n e m
  expression-numbered (sequences i x) = sequences-numbered x (sequence-numbered i)
