-- The definitions over the tree are what their names say: a mark can be first, last or next exactly where some word has it so. For this
-- each mark reads its own number, so that a word shows by which marks it goes.
use Rattle.std.specs.Prelude.{◌≡◌, refl, ◌↔◌, List, [], ◌∷◌, ◌++◌, ℕ}
use Rattle.std.proofs.Common.{sym, ap, ◌∙◌, append_assoc, append-nil}
use Rattle.meaning.specs.Collection.{Letter, role, test}
use Rattle.expression.specs.Tree.{Tree, mark, both, either, many, WordOf, one, joined, left, right, none, more}
use Rattle.expression.specs.Tree.{MarkReads, itself, in_first, in_second, in_this, in_that, in_many}
use Rattle.expression.specs.Tree.{AllowsEmpty, empty_both, empty_this, empty_that, empty_many}
use Rattle.expression.specs.Tree.{CanBeFirst, first, first_left, first_right, first_this, first_that, first_many}
use Rattle.expression.specs.Tree.{CanBeLast, last, last_left, last_right, last_this, last_that, last_many}
use Rattle.expression.specs.Tree.{CanFollow, follow_left, follow_right, follow_over, follow_this, follow_that, follow_many, follow_again}
use Rattle.expression.specs.Meant.{own, plain}
use Rattle.expression.proofs.Words.{After, Enters, empty-word, word-empty, word_first, after_next, after_last}

-- each mark reads its own number
pub data Spelt : Tree → Type 0 where
  spelt : {k : ℕ} {l : Letter} → l ≡ own k → Spelt (mark k l)
  spelt-both : {e f : Tree} → Spelt e → Spelt f → Spelt (both e f)
  spelt-either : {e f : Tree} → Spelt e → Spelt f → Spelt (either e f)
  spelt-many : {e : Tree} → Spelt e → Spelt (many e)

reads-own : {e : Tree} {k : ℕ} {l : Letter} → Spelt e → MarkReads e k l → l ≡ own k
reads-own (spelt z) (itself p q) = q ∙ z ∙ ap own (sym p)
reads-own (spelt-both a b) (in_first h) = reads-own a h
reads-own (spelt-both a b) (in_second h) = reads-own b h
reads-own (spelt-either a b) (in_this h) = reads-own a h
reads-own (spelt-either a b) (in_that h) = reads-own b h
reads-own (spelt-many a) (in_many h) = reads-own a h

-- every expression has a word
some_word : (e : Tree) → (w : List Letter) × WordOf e w
some_word (mark k l) = (l ∷ [], one)
some_word (both e f) = let a = some_word e in let b = some_word f in (a.0 ++ b.0, joined a.1 b.1)
some_word (either e f) = let a = some_word e in (a.0, left a.1)
some_word (many e) = ([], none)

first-spells : {e : Tree} {k : ℕ} → Spelt e → CanBeFirst e k → (v : List Letter) × WordOf e (own k ∷ v)
first-spells (spelt {k = j} {l = l} z) (first p) = let q = z ∙ ap own (sym p) in ([], rw (← q) one)
first-spells (spelt-both {e = e} {f = f} a b) (first_left h) = let x = first-spells a h in let y = some_word f in (x.0 ++ y.0, joined x.1 y.1)
first-spells (spelt-both a b) (first_right z h) = let x = first-spells b h in (x.0, joined (empty-word z) x.1)
first-spells (spelt-either a b) (first_this h) = let x = first-spells a h in (x.0, left x.1)
first-spells (spelt-either a b) (first_that h) = let x = first-spells b h in (x.0, right x.1)
first-spells (spelt-many a) (first_many h) = let x = first-spells a h in (x.0 ++ [], more x.1 none)

last-spells : {e : Tree} {k : ℕ} → Spelt e → CanBeLast e k → (u : List Letter) × WordOf e (u ++ (own k ∷ []))
last-spells (spelt z) (last p) = let q = z ∙ ap own (sym p) in ([], rw (← q) one)
last-spells {k = k} (spelt-both a b) (last_left h z) = let x = last-spells a h in let q = append-nil (x.0 ++ (own k ∷ [])) in let w = joined x.1 (empty-word z) in (x.0, rw q at w)
last-spells {k = k} (spelt-both {e = e} a b) (last_right h) =
    let x = last-spells b h in
    let y = some_word e in
    let q = append_assoc y.0 x.0 (own k ∷ []) in
    (y.0 ++ x.0, rw q (joined y.1 x.1))
last-spells (spelt-either a b) (last_this h) = let x = last-spells a h in (x.0, left x.1)
last-spells (spelt-either a b) (last_that h) = let x = last-spells b h in (x.0, right x.1)
last-spells {k = k} (spelt-many a) (last_many h) = let x = last-spells a h in let q = append-nil (x.0 ++ (own k ∷ [])) in let w = more x.1 none in (x.0, rw q at w)

abbrev Pair : Tree → ℕ → ℕ → Type 0
Pair e j k = (u v : List Letter) × WordOf e (u ++ (own j ∷ own k ∷ v))

next-spells : {e : Tree} {j k : ℕ} → Spelt e → CanFollow e j k → Pair e j k
next-spells (spelt a) h = elim h [ ]
next-spells {j = j} {k = k} (spelt-both {f = f} a b) (follow_left h) =
    let x = next-spells a h in
    let y = some_word f in
    let q = append_assoc x.0 (own j ∷ own k ∷ x.1) y.0 in
    let w = joined x.2 y.1 in
    (x.0, x.1 ++ y.0, rw q at w)
next-spells {j = j} {k = k} (spelt-both {e = e} a b) (follow_right h) =
    let x = next-spells b h in
    let y = some_word e in
    let q = append_assoc y.0 x.0 (own j ∷ own k ∷ x.1) in
    (y.0 ++ x.0, x.1, rw q (joined y.1 x.2))
next-spells {j = j} {k = k} (spelt-both a b) (follow_over p q) =
    let x = last-spells a p in
    let y = first-spells b q in
    let z = append_assoc x.0 (own j ∷ []) (own k ∷ y.0) in
    let w = joined x.1 y.1 in
    (x.0, y.0, rw z at w)
next-spells (spelt-either a b) (follow_this h) = let x = next-spells a h in (x.0, x.1, left x.2)
next-spells (spelt-either a b) (follow_that h) = let x = next-spells b h in (x.0, x.1, right x.2)
next-spells {j = j} {k = k} (spelt-many a) (follow_many h) =
    let x = next-spells a h in
    let q = append-nil (x.0 ++ (own j ∷ own k ∷ x.1)) in
    let w = more x.2 none in
    (x.0, x.1, rw q at w)
next-spells {j = j} {k = k} (spelt-many a) (follow_again p q) =
    let x = last-spells a p in
    let y = first-spells a q in
    let z = append_assoc x.0 (own j ∷ []) (own k ∷ y.0 ++ []) in
    let w = more x.1 (more y.1 none) in
    (x.0, y.0 ++ [], rw z at w)

-- and the words say no more
own-is : {j k : ℕ} → own j ≡ own k → j ≡ k
own-is e = ap number-of e
  where
    number-of : Letter → ℕ
    number-of (role S) = S.0
    number-of (test A) = A.0

module _ {e : Tree} (o : Spelt e) where
  entered : {P : ℕ → Type 0} {k : ℕ} {w : List Letter} → Enters e P (own k) w → P k × After e k w
  entered {P} {k} {w} q =
      let z = own-is (reads-own o q.reads) in
      let p = q.may in
      let r = q.rest in
      (rw (sym z) at p, rw (sym z) at r)

  first-back : {k : ℕ} {v : List Letter} → WordOf e (own k ∷ v) → CanBeFirst e k
  first-back w = (entered (word_first w refl)).0

  -- past the mark i
  last-on : {k : ℕ} (u : List Letter) {i : ℕ} → After e i (u ++ (own k ∷ [])) → CanBeLast e k
  last-on [] a = after_last (entered (after_next a refl)).1 refl
  last-on (x ∷ u) a = last-on u (after_next a refl).rest

  last-back : {k : ℕ} (u : List Letter) → WordOf e (u ++ (own k ∷ [])) → CanBeLast e k
  last-back [] w = after_last (entered (word_first w refl)).1 refl
  last-back (x ∷ u) w = last-on u (word_first w refl).rest

  next-on : {j k : ℕ} (u v : List Letter) {i : ℕ} → After e i (u ++ (own j ∷ own k ∷ v)) → CanFollow e j k
  next-on [] v a = (entered (after_next (entered (after_next a refl)).1 refl)).0
  next-on (x ∷ u) v a = next-on u v (after_next a refl).rest

  next-back : {j k : ℕ} (u v : List Letter) → WordOf e (u ++ (own j ∷ own k ∷ v)) → CanFollow e j k
  next-back [] v w = (entered (after_next (entered (word_first w refl)).1 refl)).0
  next-back (x ∷ u) v w = next-on u v (word_first w refl).rest

-- two expressions that differ only in what their marks read
data Alike : Tree → Tree → Type 0 where
  alike : {j k : ℕ} {l m : Letter} → j ≡ k → Alike (mark j l) (mark k m)
  alike_both : {e f : Tree} {g h : Tree} → Alike e g → Alike f h → Alike (both e f) (both g h)
  alike-either : {e f : Tree} {g h : Tree} → Alike e g → Alike f h → Alike (either e f) (either g h)
  alike-many : {e : Tree} {g : Tree} → Alike e g → Alike (many e) (many g)

alike-empty : {e : Tree} {g : Tree} → Alike e g → AllowsEmpty e → AllowsEmpty g
alike-empty (alike z) h = elim h [ ]
alike-empty (alike_both a b) (empty_both x y) = empty_both (alike-empty a x) (alike-empty b y)
alike-empty (alike-either a b) (empty_this x) = empty_this (alike-empty a x)
alike-empty (alike-either a b) (empty_that x) = empty_that (alike-empty b x)
alike-empty (alike-many a) empty_many = empty_many

alike-first : {e : Tree} {g : Tree} {k : ℕ} → Alike e g → CanBeFirst e k → CanBeFirst g k
alike-first (alike z) (first p) = first (p ∙ z)
alike-first (alike_both a b) (first_left x) = first_left (alike-first a x)
alike-first (alike_both a b) (first_right z x) = first_right (alike-empty a z) (alike-first b x)
alike-first (alike-either a b) (first_this x) = first_this (alike-first a x)
alike-first (alike-either a b) (first_that x) = first_that (alike-first b x)
alike-first (alike-many a) (first_many x) = first_many (alike-first a x)

alike-last : {e : Tree} {g : Tree} {k : ℕ} → Alike e g → CanBeLast e k → CanBeLast g k
alike-last (alike z) (last p) = last (p ∙ z)
alike-last (alike_both a b) (last_left x z) = last_left (alike-last a x) (alike-empty b z)
alike-last (alike_both a b) (last_right x) = last_right (alike-last b x)
alike-last (alike-either a b) (last_this x) = last_this (alike-last a x)
alike-last (alike-either a b) (last_that x) = last_that (alike-last b x)
alike-last (alike-many a) (last_many x) = last_many (alike-last a x)

alike_next : {e : Tree} {g : Tree} {j k : ℕ} → Alike e g → CanFollow e j k → CanFollow g j k
alike_next (alike z) h = elim h [ ]
alike_next (alike_both a b) (follow_left x) = follow_left (alike_next a x)
alike_next (alike_both a b) (follow_right x) = follow_right (alike_next b x)
alike_next (alike_both a b) (follow_over x y) = follow_over (alike-last a x) (alike-first b y)
alike_next (alike-either a b) (follow_this x) = follow_this (alike_next a x)
alike_next (alike-either a b) (follow_that x) = follow_that (alike_next b x)
alike_next (alike-many a) (follow_many x) = follow_many (alike_next a x)
alike_next (alike-many a) (follow_again x y) = follow_again (alike-last a x) (alike-first a y)

turned : {e : Tree} {g : Tree} → Alike e g → Alike g e
turned (alike z) = alike (sym z)
turned (alike_both a b) = alike_both (turned a) (turned b)
turned (alike-either a b) = alike-either (turned a) (turned b)
turned (alike-many a) = alike-many (turned a)

plain-alike : (e : Tree) → Alike e (plain e)
plain-alike (mark k l) = alike refl
plain-alike (both e f) = alike_both (plain-alike e) (plain-alike f)
plain-alike (either e f) = alike-either (plain-alike e) (plain-alike f)
plain-alike (many e) = alike-many (plain-alike e)

plain-spelt : (e : Tree) → Spelt (plain e)
plain-spelt (mark k l) = spelt refl
plain-spelt (both e f) = spelt-both (plain-spelt e) (plain-spelt f)
plain-spelt (either e f) = spelt-either (plain-spelt e) (plain-spelt f)
plain-spelt (many e) = spelt-many (plain-spelt e)

-- THEOREMS: a mark can be first, last or next exactly where it is in some word, spelt by the marks' own numbers
module _ (e : Tree) where
  there : Alike e (plain e)
  there = plain-alike e

  own-words : Spelt (plain e)
  own-words = plain-spelt e

  pub empty-means : AllowsEmpty e ↔ WordOf e []
  empty-means = (λ x. empty-word x, λ w. word-empty w refl)

  pub first-means : (k : ℕ) → CanBeFirst e k ↔ ((v : List Letter) × WordOf (plain e) (own k ∷ v))
  first-means k = (λ x. first-spells own-words (alike-first there x), λ p. alike-first (turned there) (first-back own-words p.1))

  pub last-means : (k : ℕ) → CanBeLast e k ↔ ((u : List Letter) × WordOf (plain e) (u ++ (own k ∷ [])))
  last-means k = (λ x. last-spells own-words (alike-last there x), λ p. alike-last (turned there) (last-back own-words p.0 p.1))

  pub next-means : (j k : ℕ) → CanFollow e j k ↔ ((u v : List Letter) × WordOf (plain e) (u ++ (own j ∷ own k ∷ v)))
  next-means j k = (λ x. next-spells own-words (alike_next there x), λ p. alike_next (turned there) (next-back own-words p.0 p.1 p.2))
