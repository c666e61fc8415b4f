-- The automaton's words are exactly the expression's.
use Rattle.std.specs.Prelude.{◌≡◌, refl, ◌⊎◌, ◌↔◌, List, [], ◌∷◌, ◌++◌, ℕ, ◌<◌, ◌≤◌}
use Rattle.std.proofs.Common.{sym, ap, subst, inl, inr, arith}
use Rattle.expression.specs.Tree.{Tree, mark, both, either, many, WordOf, one, joined, left, right, none, more}
use Rattle.expression.specs.Numbered.{Numbered, number, numbers, numbers_or, numbers_many}
use Rattle.expression.specs.Tree.{MarkReads, itself, in_first, in_second, in_this, in_that, in_many}
use Rattle.expression.specs.Tree.{AllowsEmpty, empty_both, empty_this, empty_that, empty_many}
use Rattle.expression.specs.Tree.{CanBeFirst, first, first_left, first_right, first_this, first_that, first_many}
use Rattle.expression.specs.Tree.{CanBeLast, last, last_left, last_right, last_this, last_that, last_many}
use Rattle.expression.specs.Tree.{CanFollow, follow_left, follow_right, follow_over, follow_this, follow_that, follow_many, follow_again}
use Rattle.expression.specs.Tree.{MayPrecede, start, after, EndsAt, nothing, ending}
use Rattle.kinds.specs.declared.State.{State}
use Rattle.kinds.specs.Kinds.{state}
use Rattle.laws.specs.Member.{◌∈◌}
use Rattle.meaning.specs.Collection.{Collection, Letter}
use Rattle.meaning.specs.Question as question
use Rattle.meaning.specs.Question.{Word, Reads}
use Rattle.expression.specs.Automaton.{IsAutomaton}

-- k is the number of a mark from n + 1 to m
pub record In (n m k : ℕ) : Type 0 where
  pub low : n < k
  pub high : k ≤ m

wider : {n h m k : ℕ} → h < m → In n h k → In n m k
wider h i = record { low = i.low; high = let a = i.high in omega arith }

lower : {n h m k : ℕ} → n < h → In h m k → In n m k
lower h i = record { low = let a = i.low in omega arith; high = i.high }

-- no mark is in both of two parts
clash : {n h m k : ℕ} → In n h k → In h m k → ⊥
clash i j = let a = i.high in let b = j.low in omega arith

-- how a list that is made of two begins
nil-left : (u v : List Letter) → u ++ v ≡ [] → u ≡ []
nil-left [] v h = refl
nil-left (x ∷ u) v h = absurd (let z : ◌≡◌ {A = ℕ} 0 1 = cc in omega arith)

nil-right : (u v : List Letter) → u ++ v ≡ [] → v ≡ []
nil-right [] v h = h
nil-right (x ∷ u) v h = absurd (let z : ◌≡◌ {A = ℕ} 0 1 = cc in omega arith)

abbrev Begins : List Letter → List Letter → Letter → List Letter → Type 0
Begins u v l w = ((u ≡ []) × (v ≡ l ∷ w)) ⊎ ((t : List Letter) × (u ≡ l ∷ t) × (w ≡ t ++ v))

begins : (u v : List Letter) {l : Letter} {w : List Letter} → u ++ v ≡ l ∷ w → Begins u v l w
begins [] v h = inl (refl, h)
begins (x ∷ u) v h = inr (u, cc, cc)

pub rises : {e : Tree} {n m : ℕ} → Numbered n e m → n < m
rises (number a b) = omega arith
rises (numbers c d) = let a = rises c in let b = rises d in omega arith
rises (numbers_or c d) = let a = rises c in let b = rises d in omega arith
rises (numbers_many c) = rises c

pub reads-in : {e : Tree} {n m k : ℕ} {l : Letter} → Numbered n e m → MarkReads e k l → In n m k
reads-in (number a b) (itself p q) = record { low = omega arith; high = omega arith }
reads-in (numbers c d) (in_first h) = wider (rises d) (reads-in c h)
reads-in (numbers c d) (in_second h) = lower (rises c) (reads-in d h)
reads-in (numbers_or c d) (in_this h) = wider (rises d) (reads-in c h)
reads-in (numbers_or c d) (in_that h) = lower (rises c) (reads-in d h)
reads-in (numbers_many c) (in_many h) = reads-in c h

pub first-in : {e : Tree} {n m k : ℕ} → Numbered n e m → CanBeFirst e k → In n m k
first-in (number a b) (first p) = record { low = omega arith; high = omega arith }
first-in (numbers c d) (first_left h) = wider (rises d) (first-in c h)
first-in (numbers c d) (first_right z h) = lower (rises c) (first-in d h)
first-in (numbers_or c d) (first_this h) = wider (rises d) (first-in c h)
first-in (numbers_or c d) (first_that h) = lower (rises c) (first-in d h)
first-in (numbers_many c) (first_many h) = first-in c h

pub last-in : {e : Tree} {n m k : ℕ} → Numbered n e m → CanBeLast e k → In n m k
last-in (number a b) (last p) = record { low = omega arith; high = omega arith }
last-in (numbers c d) (last_left h z) = wider (rises d) (last-in c h)
last-in (numbers c d) (last_right h) = lower (rises c) (last-in d h)
last-in (numbers_or c d) (last_this h) = wider (rises d) (last-in c h)
last-in (numbers_or c d) (last_that h) = lower (rises c) (last-in d h)
last-in (numbers_many c) (last_many h) = last-in c h

pub next-from : {e : Tree} {n m j k : ℕ} → Numbered n e m → CanFollow e j k → In n m j
next-from (number a b) h = elim h [ ]
next-from (numbers c d) (follow_left h) = wider (rises d) (next-from c h)
next-from (numbers c d) (follow_right h) = lower (rises c) (next-from d h)
next-from (numbers c d) (follow_over p q) = wider (rises d) (last-in c p)
next-from (numbers_or c d) (follow_this h) = wider (rises d) (next-from c h)
next-from (numbers_or c d) (follow_that h) = lower (rises c) (next-from d h)
next-from (numbers_many c) (follow_many h) = next-from c h
next-from (numbers_many c) (follow_again p q) = last-in c p

pub next-to : {e : Tree} {n m j k : ℕ} → Numbered n e m → CanFollow e j k → In n m k
next-to (number a b) h = elim h [ ]
next-to (numbers c d) (follow_left h) = wider (rises d) (next-to c h)
next-to (numbers c d) (follow_right h) = lower (rises c) (next-to d h)
next-to (numbers c d) (follow_over p q) = lower (rises c) (first-in d q)
next-to (numbers_or c d) (follow_this h) = wider (rises d) (next-to c h)
next-to (numbers_or c d) (follow_that h) = lower (rises c) (next-to d h)
next-to (numbers_many c) (follow_many h) = next-to c h
next-to (numbers_many c) (follow_again p q) = first-in c q

-- after the mark k, w makes a word whole
pub data After : Tree → ℕ → List Letter → Type 0 where
  whole : {j k : ℕ} {l : Letter} → k ≡ j → After (mark j l) k []
  after-left : {e f : Tree} {k : ℕ} {u v : List Letter} → After e k u → WordOf f v → After (both e f) k (u ++ v)
  after-right : {e f : Tree} {k : ℕ} {w : List Letter} → After f k w → After (both e f) k w
  after-this : {e f : Tree} {k : ℕ} {w : List Letter} → After e k w → After (either e f) k w
  after-that : {e f : Tree} {k : ℕ} {w : List Letter} → After f k w → After (either e f) k w
  after-many : {e : Tree} {k : ℕ} {u v : List Letter} → After e k u → WordOf (many e) v → After (many e) k (u ++ v)

after-in : {e : Tree} {n m k : ℕ} {w : List Letter} → Numbered n e m → After e k w → In n m k
after-in (number a b) (whole p) = record { low = omega arith; high = omega arith }
after-in (numbers c d) (after-left h z) = wider (rises d) (after-in c h)
after-in (numbers c d) (after-right h) = lower (rises c) (after-in d h)
after-in (numbers_or c d) (after-this h) = wider (rises d) (after-in c h)
after-in (numbers_or c d) (after-that h) = lower (rises c) (after-in d h)
after-in (numbers_many c) (after-many h z) = after-in c h

-- the empty word
pub empty-word : {e : Tree} → AllowsEmpty e → WordOf e []
empty-word (empty_both h k) = joined (empty-word h) (empty-word k)
empty-word (empty_this h) = left (empty-word h)
empty-word (empty_that h) = right (empty-word h)
empty-word empty_many = none

pub word-empty : {e : Tree} {w : List Letter} → WordOf e w → w ≡ [] → AllowsEmpty e
word-empty one z = absurd (let z : ◌≡◌ {A = ℕ} 0 1 = cc in omega arith)
word-empty (joined {u = u} {v = v} a b) z = empty_both (word-empty a (nil-left u v z)) (word-empty b (nil-right u v z))
word-empty (left a) z = empty_this (word-empty a z)
word-empty (right a) z = empty_that (word-empty a z)
word-empty none z = empty_many
word-empty (more a b) z = empty_many

-- a word ends after k when k can be last
last-after : {e : Tree} {k : ℕ} → CanBeLast e k → After e k []
last-after (last p) = whole p
last-after (last_left h z) = after-left (last-after h) (empty-word z)
last-after (last_right h) = after-right (last-after h)
last-after (last_this h) = after-this (last-after h)
last-after (last_that h) = after-that (last-after h)
last-after (last_many h) = after-many (last-after h) none

pub after_last : {e : Tree} {k : ℕ} {w : List Letter} → After e k w → w ≡ [] → CanBeLast e k
after_last (whole p) z = last p
after_last (after-left {u = u} {v = v} a b) z = last_left (after_last a (nil-left u v z)) (word-empty b (nil-right u v z))
after_last (after-right a) z = last_right (after_last a z)
after_last (after-this a) z = last_this (after_last a z)
after_last (after-that a) z = last_that (after_last a z)
after_last (after-many {u = u} {v = v} a b) z = last_many (after_last a (nil-left u v z))

-- a mark with P is entered by l, and w is left
pub record Enters (e : Tree) (P : ℕ → Type 0) (l : Letter) (w : List Letter) : Type 0 where
  pub k : ℕ
  pub may : P k
  pub reads : MarkReads e k l
  pub rest : After e k w

-- a word that is not empty starts with a mark that can be first
pub word_first : {e : Tree} {w : List Letter} → WordOf e w → {l : Letter} {v : List Letter} → w ≡ l ∷ v → Enters e (CanBeFirst e) l v
word_first (one {k = k} {l = m}) {l} {v} z =
    let a : ◌≡◌ {A = List Letter} [] v = cc in
    let b : l ≡ m = cc in
    record { k = k; may = first refl; reads = itself refl b; rest = rw (← a) (whole refl) }
word_first (joined {u = u} {v = x} a b) z =
    elim (begins u x z) [
      | inl p ↦
          let q = word_first b p.1 in
          record { k = q.k; may = first_right (word-empty a p.0) q.may; reads = in_second q.reads; rest = after-right q.rest }
      | inr p ↦
          let q = word_first a p.1 in
          record { k = q.k; may = first_left q.may; reads = in_first q.reads; rest = rw p.2 (after-left q.rest b) }
    ]
word_first (left a) z = let q = word_first a z in record { k = q.k; may = first_this q.may; reads = in_this q.reads; rest = after-this q.rest }
word_first (right a) z = let q = word_first a z in record { k = q.k; may = first_that q.may; reads = in_that q.reads; rest = after-that q.rest }
word_first none z = absurd (let z : ◌≡◌ {A = ℕ} 0 1 = cc in omega arith)
word_first (more {u = u} {v = x} a b) z =
    elim (begins u x z) [
      | inl p ↦ word_first b p.1
      | inr p ↦
          let q = word_first a p.1 in
          record { k = q.k; may = first_many q.may; reads = in_many q.reads; rest = rw p.2 (after-many q.rest b) }
    ]

first_word : {e : Tree} {n m k : ℕ} {l : Letter} {w : List Letter} → Numbered n e m → CanBeFirst e k → MarkReads e k l → After e k w → WordOf e (l ∷ w)
first_word (number x y) (first p) (itself q e) (whole s) = rw e one
first_word (numbers c d) (first_left p) (in_first h) (after-left a b) = joined (first_word c p h a) b
first_word (numbers c d) (first_left p) (in_first h) (after-right a) = absurd (clash (first-in c p) (after-in d a))
first_word (numbers c d) (first_left p) (in_second h) a = absurd (clash (first-in c p) (reads-in d h))
first_word (numbers c d) (first_right z p) (in_first h) a = absurd (clash (reads-in c h) (first-in d p))
first_word (numbers c d) (first_right z p) (in_second h) (after-left a b) = absurd (clash (after-in c a) (first-in d p))
first_word (numbers c d) (first_right z p) (in_second h) (after-right a) = joined (empty-word z) (first_word d p h a)
first_word (numbers_or c d) (first_this p) (in_this h) (after-this a) = left (first_word c p h a)
first_word (numbers_or c d) (first_this p) (in_this h) (after-that a) = absurd (clash (first-in c p) (after-in d a))
first_word (numbers_or c d) (first_this p) (in_that h) a = absurd (clash (first-in c p) (reads-in d h))
first_word (numbers_or c d) (first_that p) (in_this h) a = absurd (clash (reads-in c h) (first-in d p))
first_word (numbers_or c d) (first_that p) (in_that h) (after-this a) = absurd (clash (after-in c a) (first-in d p))
first_word (numbers_or c d) (first_that p) (in_that h) (after-that a) = right (first_word d p h a)
first_word (numbers_many c) (first_many p) (in_many h) (after-many a b) = more (first_word c p h a) b

once : {e : Tree} {k : ℕ} → CanBeFirst (many e) k → CanBeFirst e k
once (first_many h) = h

-- after j a word goes on with a mark that can come next
pub after_next : {e : Tree} {j : ℕ} {w : List Letter} → After e j w → {l : Letter} {v : List Letter} → w ≡ l ∷ v → Enters e (CanFollow e j) l v
after_next (whole p) z = absurd (let z : ◌≡◌ {A = ℕ} 0 1 = cc in omega arith)
after_next (after-left {u = u} {v = x} a b) z =
    elim (begins u x z) [
      | inl p ↦
          let q = word_first b p.1 in
          record { k = q.k; may = follow_over (after_last a p.0) q.may; reads = in_second q.reads; rest = after-right q.rest }
      | inr p ↦
          let q = after_next a p.1 in
          record { k = q.k; may = follow_left q.may; reads = in_first q.reads; rest = rw p.2 (after-left q.rest b) }
    ]
after_next (after-right a) z =
    let q = after_next a z in
    record { k = q.k; may = follow_right q.may; reads = in_second q.reads; rest = after-right q.rest }
after_next (after-this a) z = let q = after_next a z in record { k = q.k; may = follow_this q.may; reads = in_this q.reads; rest = after-this q.rest }
after_next (after-that a) z = let q = after_next a z in record { k = q.k; may = follow_that q.may; reads = in_that q.reads; rest = after-that q.rest }
after_next (after-many {u = u} {v = x} a b) z =
    elim (begins u x z) [
      | inl p ↦
          let q = word_first b p.1 in
          record { k = q.k; may = follow_again (after_last a p.0) (once q.may); reads = q.reads; rest = q.rest }
      | inr p ↦
          let q = after_next a p.1 in
          record { k = q.k; may = follow_many q.may; reads = in_many q.reads; rest = rw p.2 (after-many q.rest b) }
    ]

next-after : {e : Tree} {n m j k : ℕ} {l : Letter} {w : List Letter} → Numbered n e m → CanFollow e j k → MarkReads e k l → After e k w → After e j (l ∷ w)
next-after (number a b) p h q = elim p [ ]
next-after (numbers c d) (follow_left p) (in_first h) (after-left a b) = after-left (next-after c p h a) b
next-after (numbers c d) (follow_left p) (in_first h) (after-right a) = absurd (clash (next-to c p) (after-in d a))
next-after (numbers c d) (follow_left p) (in_second h) a = absurd (clash (next-to c p) (reads-in d h))
next-after (numbers c d) (follow_right p) (in_first h) a = absurd (clash (reads-in c h) (next-to d p))
next-after (numbers c d) (follow_right p) (in_second h) (after-left a b) = absurd (clash (after-in c a) (next-to d p))
next-after (numbers c d) (follow_right p) (in_second h) (after-right a) = after-right (next-after d p h a)
next-after (numbers c d) (follow_over p q) (in_first h) a = absurd (clash (reads-in c h) (first-in d q))
next-after (numbers c d) (follow_over p q) (in_second h) (after-left a b) = absurd (clash (after-in c a) (first-in d q))
next-after (numbers c d) (follow_over p q) (in_second h) (after-right a) = after-left (last-after p) (first_word d q h a)
next-after (numbers_or c d) (follow_this p) (in_this h) (after-this a) = after-this (next-after c p h a)
next-after (numbers_or c d) (follow_this p) (in_this h) (after-that a) = absurd (clash (next-to c p) (after-in d a))
next-after (numbers_or c d) (follow_this p) (in_that h) a = absurd (clash (next-to c p) (reads-in d h))
next-after (numbers_or c d) (follow_that p) (in_this h) a = absurd (clash (reads-in c h) (next-to d p))
next-after (numbers_or c d) (follow_that p) (in_that h) (after-this a) = absurd (clash (after-in c a) (next-to d p))
next-after (numbers_or c d) (follow_that p) (in_that h) (after-that a) = after-that (next-after d p h a)
next-after (numbers_many c) (follow_many p) (in_many h) (after-many a b) = after-many (next-after c p h a) b
next-after (numbers_many c) (follow_again p q) (in_many h) (after-many a b) = after-many (last-after p) (more (first_word c q h a) b)

-- the automaton of an expression as the steps and final states of a collection
module _ (𝓒 : Collection) (e : Tree) (a : IsAutomaton e 𝓒.steps 𝓒.finals) where
  -- a word of the expression is read
  after_read : (j : State) (w : List Letter) → After e j.0 w → (t : State) × CanBeLast e t.0 × Reads 𝓒 j w t
  after_read j [] x = (j, after_last x refl, question.nothing)
  after_read j (l ∷ w) x =
      let q = after_next x refl in
      let r = after_read (state q.k) w q.rest in
      (r.0, r.1, question.letter ((a.steps j l (state q.k)).1 (record { before = after q.may; reads = q.reads })) r.2)

  word_read : (w : List Letter) → WordOf e w → (t : State) × (t ∈ 𝓒.finals) × Reads 𝓒 (state 0) w t
  word_read [] h = (state 0, (a.finals (state 0)).1 (nothing (word-empty h refl)), question.nothing)
  word_read (l ∷ w) h =
      let q = word_first h refl in
      let r = after_read (state q.k) w q.rest in
      (r.0, (a.finals r.0).1 (ending r.1), question.letter ((a.steps (state 0) l (state q.k)).1 (record { before = start q.may; reads = q.reads })) r.2)

  -- what is read is a word of the expression
  module _ {m : ℕ} (c : Numbered 0 e m) where
    final-last : {t : ℕ} → EndsAt e t → 0 < t → CanBeLast e t
    final-last (nothing h) p = absurd (omega arith)
    final-last (ending h) p = h

    final-empty : {t : ℕ} → EndsAt e t → t ≡ 0 → AllowsEmpty e
    final-empty (nothing h) z = h
    final-empty (ending h) z = absurd (let i = (last-in c h).low in omega arith)

    before-next : {j k : ℕ} → MayPrecede e j k → 0 < j → CanFollow e j k
    before-next (start h) p = absurd (omega arith)
    before-next (after h) p = h

    before-first : {j k : ℕ} → MayPrecede e j k → j ≡ 0 → CanBeFirst e k
    before-first (start h) z = h
    before-first (after h) z = absurd (let i = (next-from c h).low in omega arith)

    read-after : {j t : State} {w : List Letter} → Reads 𝓒 j w t → 0 < j.0 → EndsAt e t.0 → After e j.0 w
    read-after question.nothing p f = last-after (final-last f p)
    read-after (question.letter {s = s} {t = t} {l = l} x r) p f =
        let y = (a.steps s l t).0 x in
        let z = before-next y.before p in
        next-after c z y.reads (read-after r (next-to c z).low f)

    read_word : {j t : State} {w : List Letter} → Reads 𝓒 j w t → j.0 ≡ 0 → EndsAt e t.0 → WordOf e w
    read_word question.nothing z f = empty-word (final-empty f z)
    read_word (question.letter {s = s} {t = t} {l = l} x r) z f =
        let y = (a.steps s l t).0 x in
        let q = before-first y.before z in
        first_word c q y.reads (read-after r (first-in c q).low f)

    -- THEOREM: the words of the question are exactly those of the expression
    pub same-words : 𝓒.counts.start ≡ state 0 → (w : List Letter) → Word 𝓒 w ↔ WordOf e w
    same-words h w = (
      λ x. read_word x.2 (ap (λ (s : State). s.0) h) ((a.finals x.0).0 x.1),
      λ x. let y = word_read w x in (y.0, y.1, subst (λ (s : State). Reads 𝓒 s w y.0) (sym h) y.2),
    )
