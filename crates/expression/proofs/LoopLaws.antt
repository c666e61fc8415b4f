-- The laws of the reader's two loops: over the items of a sequence, and over the sequences of an expression.
use Rattle.std.specs.Prelude.{◌≡◌, refl, List, ◌∷◌, ℕ, ◌+◌, ◌<◌, ◌≤◌, length, drop, Result, Ok, Err, IsErr, MatchResult}
use Rattle.std.proofs.Common.{ap, ◌∙◌, arith}
use Rattle.expression.specs.Tree.{Tree, both, either}
use Rattle.expression.specs.Grammar.{Item, Sequence, items, Items, no_item, item}
use Rattle.expression.specs.Grammar.{Expression, sequences, Sequences, no_sequence, or_else}
use Rattle.expression.specs.Ends.{next, ItemEnds, SequenceEnds, ExpressionEnds, IsSame}
use Rattle.expression.proofs.Once.{item-starts, items-end, sequences-end}
use Rattle.expression.proofs.Words.{rises}
use Rattle.sets.specs.declared.states.StateSet.{StateSet}
use Rattle.expression.specs.Parts.{Knows, IsJoined, IsEither}
use Rattle.expression.specs.Reader.{Kind, Reads, Nothing}
use Rattle.expression.specs.declared.parts.Part.{Part}
use Rattle.expression.specs.declared.reader.NothingHere.{NothingHere}
use Rattle.expression.proofs.ReaderLaws.{row_here}

-- one more at the end
items-snoc : {d n m k : ℕ} {l r t : List ℕ} {e f g : Tree} → Items d n e l m f r → Item d m r g k t → Items d n e l k (both f g) t
items-snoc no_item j = item j no_item
items-snoc (item i x) j = item i (items-snoc x j)

sequence-snoc : {d n m k : ℕ} {l r t : List ℕ} {f g : Tree} → Sequence d n l f m r → Item d m r g k t → Sequence d n l (both f g) k t
sequence-snoc (items i x) j = items i (items-snoc x j)

sequences-snoc : {d n m k c : ℕ} {l r t : List ℕ} {e f g : Tree} → Sequences d n e l m f (c ∷ r) → c ≡ 0x82 → Sequence d m r g k t → Sequences d n e l k (either f g) t
sequences-snoc {d} {n} {m} {k} {c} {l} {r} {t} {e} {f} {g} x q j = go x refl
  where
    go : {n : ℕ} {l u : List ℕ} {e : Tree} → Sequences d n e l m f u → u ≡ c ∷ r → Sequences d n e l k (either f g) t
    go no_sequence z = rw z (or_else q j no_sequence)
    go (or_else p i y) z = or_else p i (go y z)

expression-snoc : {d n m k c : ℕ} {l r t : List ℕ} {f g : Tree} → Expression d n l f m (c ∷ r) → c ≡ 0x82 → Sequence d m r g k t → Expression d n l (either f g) k t
expression-snoc (sequences i x) q j = sequences i (sequences-snoc x q j)

-- nothing more, and one more
items-none : {d n m : ℕ} {l r : List ℕ} {e f : Tree} → Items d n e l m f r → 0x80 < next l → IsSame e f n m l r
items-none no_item h = record { tree = refl; count = refl; rest = refl }
items-none (item i x) h = absurd (let a = item-starts i in omega arith)

record OneItem (d n : ℕ) (e : Tree) (l : List ℕ) (m : ℕ) (f : Tree) (r : List ℕ) : Type 0 where
  tree : Tree
  count : ℕ
  rest : List ℕ
  reads : Item d n l tree count rest
  onward : Items d count (both e tree) rest m f r

items-one : {d n m : ℕ} {l r : List ℕ} {e f : Tree} → Items d n e l m f r → next l ≤ 0x80 → SequenceEnds r → OneItem d n e l m f r
items-one no_item h y = absurd (let a = y.no_item in omega arith)
items-one (item {h = k} {s = s} {f = f} i x) h y = record { tree = f; count = k; rest = s; reads = i; onward = x }

sequences-none : {d n m : ℕ} {l r : List ℕ} {e f : Tree} → Sequences d n e l m f r → (next l ≡ 0x82 → ⊥) → IsSame e f n m l r
sequences-none no_sequence h = record { tree = refl; count = refl; rest = refl }
sequences-none (or_else p i x) h = absurd (h p)

record OneSequence (d n : ℕ) (e : Tree) (l : List ℕ) (m : ℕ) (f : Tree) (r : List ℕ) : Type 0 where
  tree : Tree
  count : ℕ
  rest : List ℕ
  reads : Sequence d n l tree count rest
  onward : Sequences d count (either e tree) rest m f r

sequences-one : {d n m b : ℕ} {l u r : List ℕ} {e f : Tree} → Sequences d n e u m f r → u ≡ b ∷ l → b ≡ 0x82 → ExpressionEnds r → OneSequence d n e l m f r
sequences-one no_sequence q h y = absurd (y.no_or (ap next q ∙ h))
sequences-one {l = l} (or_else {h = k} {l = v} {s = s} {f = f} p i x) q h y =
    let a : v ≡ l = cc in
    record { tree = f; count = k; rest = s; reads = rw a at i; onward = x }

-- the items so far: the rest of every sequence goes on from here
pub record ItemsSoFar (d : ℕ) (s : List ℕ) (at n : ℕ) (old : List StateSet) (was : List ℕ) (p c : ℕ) (a : Part) (new : List StateSet) (now : List ℕ) : Type 0 where
  pub tree : Tree
  pub reads : Sequence d n (drop at s) tree c (drop p s)
  pub knows : Knows n old was tree a c new now
  pub within : p ≤ length s
  pub fewer : c ≤ p
  pub only : (e : Tree) (m : ℕ) (r : List ℕ) → Sequence d n (drop at s) e m r → SequenceEnds r → Items d c tree (drop p s) m e r

-- the sequences so far
pub record SequencesSoFar (d : ℕ) (s : List ℕ) (at n : ℕ) (old : List StateSet) (was : List ℕ) (p c : ℕ) (a : Part) (new : List StateSet) (now : List ℕ) : Type 0 where
  pub tree : Tree
  pub reads : Expression d n (drop at s) tree c (drop p s)
  pub knows : Knows n old was tree a c new now
  pub within : p ≤ length s
  pub fewer : c ≤ p
  pub only : (e : Tree) (m : ℕ) (r : List ℕ) → Expression d n (drop at s) e m r → ExpressionEnds r → Sequences d c tree (drop p s) m e r

module _ (d : ℕ) (s : List ℕ) (at n : ℕ) where
  pub items-nothing : Nothing (Item d) ItemEnds s at n → Nothing (Sequence d) SequenceEnds s at n
  items-nothing f = record { none = λ e m r x y. none x y }
    where
      none : {e : Tree} {m : ℕ} {r : List ℕ} → Sequence d n (drop at s) e m r → SequenceEnds r → ⊥
      none (items {h = k} {s = t} {e = f'} i x) y = f.none f' k t i (items-end x y)

  pub sequences-nothing : Nothing (Sequence d) SequenceEnds s at n → Nothing (Expression d) ExpressionEnds s at n
  sequences-nothing f = record { none = λ e m r x y. none x y }
    where
      none : {e : Tree} {m : ℕ} {r : List ℕ} → Expression d n (drop at s) e m r → ExpressionEnds r → ⊥
      none (sequences {h = k} {s = t} {e = f'} i x) y = f.none f' k t i (sequences-end x y)

  module _ {old : List StateSet} {was : List ℕ} {p c : ℕ} {a : Part} {new : List StateSet} {now : List ℕ} where
    pub items-start : Reads (Item d) ItemEnds s at n old was p c a new now → ItemsSoFar d s at n old was p c a new now
    items-start g =
        record { tree = g.tree; reads = items g.reads no_item; knows = g.knows; within = g.within; fewer = g.fewer; only = λ e m r x y. found x y }
      where
        found : {e : Tree} {m : ℕ} {r : List ℕ} → Sequence d n (drop at s) e m r → SequenceEnds r → Items d c g.tree (drop p s) m e r
        found (items {h = k} {s = t} {e = f} i x) y =
            let o = g.only f k t i (items-end x y) in
            let u = o.tree in
            let v = o.count in
            let w = o.rest in
            rw (u, v, w) x

    pub sequences-start : Reads (Sequence d) SequenceEnds s at n old was p c a new now → SequencesSoFar d s at n old was p c a new now
    sequences-start g =
        record { tree = g.tree; reads = sequences g.reads no_sequence; knows = g.knows; within = g.within; fewer = g.fewer; only = λ e m r x y. found x y }
      where
        found : {e : Tree} {m : ℕ} {r : List ℕ} → Expression d n (drop at s) e m r → ExpressionEnds r → Sequences d c g.tree (drop p s) m e r
        found (sequences {h = k} {s = t} {e = f} i x) y =
            let o = g.only f k t i (sequences-end x y) in
            let u = o.tree in
            let v = o.count in
            let w = o.rest in
            rw (u, v, w) x

    module _ (w : ItemsSoFar d s at n old was p c a new now) where
      pub items-done : 0x80 < next (drop p s) → Reads (Sequence d) SequenceEnds s at n old was p c a new now
      items-done h =
          record { tree = w.tree; reads = w.reads; knows = w.knows; within = w.within; fewer = w.fewer; only = λ e m r x y. items-none (w.only e m r x y) h }

      pub items-bad : next (drop p s) ≤ 0x80 → Nothing (Item d) ItemEnds s p c → Nothing (Sequence d) SequenceEnds s at n
      items-bad h f = record {
        none = λ e m r x y. let o = items-one (w.only e m r x y) h y in f.none o.tree o.count o.rest o.reads (items-end o.onward y);
      }

      pub items-more : next (drop p s) ≤ 0x80 → {q k : ℕ} {b : Part} {mid : List StateSet} {fin : List ℕ} {r : Part} {after : List StateSet} → Reads (Item d) ItemEnds s p c new now q k b mid fin
          → IsJoined a b mid after r → ItemsSoFar d s at n old was q k r after fin
      items-more l {q} {k} {b} {mid} {fin} {r} {after} g j =
          record {
            tree = both w.tree g.tree;
            reads = sequence-snoc w.reads g.reads;
            knows = j.knows n c k old new was now fin w.tree g.tree w.knows g.knows;
            within = g.within;
            fewer = g.fewer;
            only = λ e m t x y. found e m t y (items-one (w.only e m t x y) l y);
          }
        where
          found : (e : Tree) (m : ℕ) (t : List ℕ) → SequenceEnds t → OneItem d c w.tree (drop p s) m e t → Items d k (both w.tree g.tree) (drop q s) m e t
          found e m t y z =
              let o = g.only z.tree z.count z.rest z.reads (items-end z.onward y) in
              let u = o.tree in
              let v = o.count in
              let i = o.rest in
              rw (u, v, i) z.onward

    module _ (w : SequencesSoFar d s at n old was p c a new now) where
      pub sequences-done : (next (drop p s) ≡ 0x82 → ⊥) → Reads (Expression d) ExpressionEnds s at n old was p c a new now
      sequences-done h =
          record { tree = w.tree; reads = w.reads; knows = w.knows; within = w.within; fewer = w.fewer; only = λ e m r x y. sequences-none (w.only e m r x y) h }

      pub sequences-bad : next (drop p s) ≡ 0x82 → Nothing (Sequence d) SequenceEnds s (p + 1) c → Nothing (Expression d) ExpressionEnds s at n
      sequences-bad h f = record {
        none = λ e m r x y.
            let o = sequences-one (w.only e m r x y) (row_here s p (λ q. omega arith)) h y in
            f.none o.tree o.count o.rest o.reads (sequences-end o.onward y);
      }

      pub sequences-more : next (drop p s) ≡ 0x82 → {q k : ℕ} {b : Part} {mid : List StateSet} {fin : List ℕ} {r : Part} → Reads (Sequence d) SequenceEnds s (p + 1) c new now q k b mid fin
          → IsEither a b r → SequencesSoFar d s at n old was q k r mid fin
      sequences-more l {q} {k} {b} {mid} {fin} {r} g j =
          let o = row_here s p (λ e. omega arith) in
          let x = w.reads in
          record {
            tree = either w.tree g.tree;
            reads = expression-snoc (rw o at x) l g.reads;
            knows = j.knows n c k old new mid was now fin w.tree g.tree w.knows g.knows;
            within = g.within;
            fewer = g.fewer;
            only = λ e m t x y. found e m t y (sequences-one (w.only e m t x y) o l y);
          }
        where
          found : (e : Tree) (m : ℕ) (t : List ℕ) → ExpressionEnds t → OneSequence d c w.tree (drop (p + 1) s) m e t
              → Sequences d k (either w.tree g.tree) (drop q s) m e t
          found e m t y z =
              let o = g.only z.tree z.count z.rest z.reads (sequences-end z.onward y) in
              let u = o.tree in
              let v = o.count in
              let i = o.rest in
              rw (u, v, i) z.onward

-- reading takes marks: the loops' measure falls
pub takes : {Q : Kind} {Ends : List ℕ → Type 0} {s : List ℕ} {at n : ℕ} {old : List StateSet} {was : List ℕ} {p c : ℕ} {a : Part} {new : List StateSet} {now : List ℕ}
    → Reads Q Ends s at n old was p c a new now → (n < c) × (c ≤ length s)
takes g = (rises g.knows.numbered, (let a = g.within in let b = g.fewer in omega arith))

-- what a `?` hands on: an error, where nothing stands
pub outcome-err : {Q : Kind} {Ends : List ℕ → Type 0} {s : List ℕ} {at n : ℕ} (old : List StateSet) (was : List ℕ) (p c : ℕ) (new : List StateSet) (now : List ℕ) (r : Result Part NothingHere)
    → IsErr r → Nothing Q Ends s at n → MatchResult r (λ a. Reads Q Ends s at n old was p c a new now) (λ _. Nothing Q Ends s at n)
outcome-err old was p c new now (Ok a) h f = absurd (cc)
outcome-err old was p c new now (Err x) h f = f
