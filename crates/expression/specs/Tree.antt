-- An expression as a tree, its words, and the automaton that it is given.
use Rattle.std.specs.Prelude.{◌≡◌, List, [], ◌∷◌, ◌++◌, ℕ}
use Rattle.meaning.specs.Collection.{Letter}

-- a mark with its number and what it reads; one after the other; one or the other; any number of
-- times
pub data Tree : Type 0 where
  mark : ℕ → Letter → Tree
  both : Tree → Tree → Tree
  either : Tree → Tree → Tree
  many : Tree → Tree

-- the words of an expression
pub data WordOf : Tree → List Letter → Type 0 where
  one : {k : ℕ} {l : Letter} → WordOf (mark k l) (l ∷ [])
  joined : {e f : Tree} {u v : List Letter} → WordOf e u → WordOf f v → WordOf (both e f) (u ++ v)
  left : {e f : Tree} {w : List Letter} → WordOf e w → WordOf (either e f) w
  right : {e f : Tree} {w : List Letter} → WordOf f w → WordOf (either e f) w
  none : {e : Tree} → WordOf (many e) []
  more : {e : Tree} {u v : List Letter} → WordOf e u → WordOf (many e) v → WordOf (many e) (u ++ v)

-- the mark k reads l
pub data MarkReads : Tree → ℕ → Letter → Type 0 where
  itself : {j k : ℕ} {l m : Letter} → k ≡ j → l ≡ m → MarkReads (mark j m) k l
  in_first : {e f : Tree} {k : ℕ} {l : Letter} → MarkReads e k l → MarkReads (both e f) k l
  in_second : {e f : Tree} {k : ℕ} {l : Letter} → MarkReads f k l → MarkReads (both e f) k l
  in_this : {e f : Tree} {k : ℕ} {l : Letter} → MarkReads e k l → MarkReads (either e f) k l
  in_that : {e f : Tree} {k : ℕ} {l : Letter} → MarkReads f k l → MarkReads (either e f) k l
  in_many : {e : Tree} {k : ℕ} {l : Letter} → MarkReads e k l → MarkReads (many e) k l

-- the empty word is allowed
pub data AllowsEmpty : Tree → Type 0 where
  empty_both : {e f : Tree} → AllowsEmpty e → AllowsEmpty f → AllowsEmpty (both e f)
  empty_this : {e f : Tree} → AllowsEmpty e → AllowsEmpty (either e f)
  empty_that : {e f : Tree} → AllowsEmpty f → AllowsEmpty (either e f)
  empty_many : {e : Tree} → AllowsEmpty (many e)

-- the mark k can be first
pub data CanBeFirst : Tree → ℕ → Type 0 where
  first : {j k : ℕ} {l : Letter} → k ≡ j → CanBeFirst (mark j l) k
  first_left : {e f : Tree} {k : ℕ} → CanBeFirst e k → CanBeFirst (both e f) k
  first_right : {e f : Tree} {k : ℕ} → AllowsEmpty e → CanBeFirst f k → CanBeFirst (both e f) k
  first_this : {e f : Tree} {k : ℕ} → CanBeFirst e k → CanBeFirst (either e f) k
  first_that : {e f : Tree} {k : ℕ} → CanBeFirst f k → CanBeFirst (either e f) k
  first_many : {e : Tree} {k : ℕ} → CanBeFirst e k → CanBeFirst (many e) k

-- the mark k can be last
pub data CanBeLast : Tree → ℕ → Type 0 where
  last : {j k : ℕ} {l : Letter} → k ≡ j → CanBeLast (mark j l) k
  last_left : {e f : Tree} {k : ℕ} → CanBeLast e k → AllowsEmpty f → CanBeLast (both e f) k
  last_right : {e f : Tree} {k : ℕ} → CanBeLast f k → CanBeLast (both e f) k
  last_this : {e f : Tree} {k : ℕ} → CanBeLast e k → CanBeLast (either e f) k
  last_that : {e f : Tree} {k : ℕ} → CanBeLast f k → CanBeLast (either e f) k
  last_many : {e : Tree} {k : ℕ} → CanBeLast e k → CanBeLast (many e) k

-- the mark k can come just after the mark j
pub data CanFollow : Tree → ℕ → ℕ → Type 0 where
  follow_left : {e f : Tree} {j k : ℕ} → CanFollow e j k → CanFollow (both e f) j k
  follow_right : {e f : Tree} {j k : ℕ} → CanFollow f j k → CanFollow (both e f) j k
  follow_over : {e f : Tree} {j k : ℕ} → CanBeLast e j → CanBeFirst f k → CanFollow (both e f) j k
  follow_this : {e f : Tree} {j k : ℕ} → CanFollow e j k → CanFollow (either e f) j k
  follow_that : {e f : Tree} {j k : ℕ} → CanFollow f j k → CanFollow (either e f) j k
  follow_many : {e : Tree} {j k : ℕ} → CanFollow e j k → CanFollow (many e) j k
  follow_again : {e : Tree} {j k : ℕ} → CanBeLast e j → CanBeFirst e k → CanFollow (many e) j k

-- the state j may come just before the state k
pub data MayPrecede (e : Tree) : ℕ → ℕ → Type 0 where
  start : {k : ℕ} → CanBeFirst e k → MayPrecede e 0 k
  after : {j k : ℕ} → CanFollow e j k → MayPrecede e j k

-- a step into k reads k's mark from each state that may come just before it
pub record StepsInto (e : Tree) (j : ℕ) (l : Letter) (k : ℕ) : Type 0 where
  pub before : MayPrecede e j k
  pub reads : MarkReads e k l

-- state 0 is final when the empty word is allowed, any other when its mark can be last
pub data EndsAt (e : Tree) : ℕ → Type 0 where
  nothing : AllowsEmpty e → EndsAt e 0
  ending : {k : ℕ} → CanBeLast e k → EndsAt e k
