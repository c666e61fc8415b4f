-- What is known of a part of an expression, and of the states so far.
use Rattle.std.specs.Prelude.{◌≡◌, ◌⊎◌, ◌↔◌, Bool, true, List, ℕ, ◌<◌, ◌≤◌, length, slice_index_or}
use Rattle.kinds.specs.Kinds.{most_states}
use Rattle.meaning.specs.Collection.{Letter}
use Rattle.sets.specs.Bits.{Has}
use Rattle.sets.specs.Rows.{no_states}
use Rattle.sets.specs.declared.states.StateSet.{StateSet}
use Rattle.expression.specs.Marks.{mark_letter}
use Rattle.expression.specs.Tree.{Tree, both, either, many, MarkReads, AllowsEmpty, CanBeFirst, CanBeLast, CanFollow}
use Rattle.expression.specs.Numbered.{Numbered}
use Rattle.expression.specs.declared.parts.Part.{Part}

-- the state k is in row j
abbrev pub InRow : List StateSet → ℕ → ℕ → Type 0
InRow rows j k = Has (slice_index_or rows j no_states).0 k

-- of the states that can be declared, the set m has those with P
pub record Holds (m : StateSet) (P : ℕ → Type 0) : Type 0 where
  pub at : (k : ℕ) → k < most_states → Has m.0 k ↔ P k

-- m is the state k alone, where there is room for it
pub record IsAlone (k : ℕ) (m : StateSet) : Type 0 where
  pub at : (t : ℕ) → t < most_states → Has m.0 t ↔ (t ≡ k)

-- r is m where on is true, and else empty
pub record IsWhen (on : Bool) (m r : StateSet) : Type 0 where
  pub member : (k : ℕ) → Has r.0 k ↔ ((on ≡ true) × Has m.0 k)

-- every state of `from` now leads to every one of `to`
pub record Leads (old : List StateSet) (from to : StateSet) (new : List StateSet) : Type 0 where
  pub long : length new ≡ most_states
  pub at : (j k : ℕ) → j < most_states
      → InRow new j k ↔ (InRow old j k ⊎ (Has from.0 j × Has to.0 k))

-- the mark of the state k is noted, where there is room, and no other is changed
pub record Notes (old : List ℕ) (k b : ℕ) (new : List ℕ) : Type 0 where
  pub here : k < most_states → slice_index_or new k 0 ≡ b
  pub others : (j : ℕ) → (j ≡ k → ⊥) → slice_index_or new j 0 ≡ slice_index_or old j 0

-- the part e, its marks numbered n + 1 to m, is known: the new rows are the old ones and say which
-- states can follow in e, and the new marks are the old ones and those of e
pub record Knows (n : ℕ) (old : List StateSet) (was : List ℕ) (e : Tree) (a : Part) (m : ℕ)
    (new : List StateSet) (now : List ℕ) : Type 0 where
  pub numbered : Numbered n e m
  pub empty : (a.empty ≡ true) ↔ AllowsEmpty e
  pub first : Holds a.first (CanBeFirst e)
  pub last : Holds a.last (CanBeLast e)
  pub rows : (j k : ℕ) → j < most_states → k < most_states
      → InRow new j k ↔ (InRow old j k ⊎ CanFollow e j k)
  pub reads : (k : ℕ) (l : Letter) → k < most_states → MarkReads e k l
      → l ≡ mark_letter (slice_index_or now k 0)
  pub kept : (k : ℕ) → k ≤ n → slice_index_or now k 0 ≡ slice_index_or was k 0

-- r has the states that can be last, and the start where the empty word is allowed
pub record IsFinals (a : Part) (r : StateSet) : Type 0 where
  pub at : (k : ℕ) → k < most_states
      → Has r.0 k ↔ (Has a.last.0 k ⊎ ((a.empty ≡ true) × (k ≡ 0)))

-- of two parts, the second begun with what the first left, r and `after` are what is known of both
-- in sequence; of either
pub record IsJoined (a b : Part) (before after : List StateSet) (r : Part) : Type 0 where
  pub knows : (n h m : ℕ) (old mid : List StateSet) (was half now : List ℕ) (e f : Tree)
      → Knows n old was e a h mid half → Knows h mid half f b m before now
      → Knows n old was (both e f) r m after now

pub record IsEither (a b r : Part) : Type 0 where
  pub knows : (n h m : ℕ) (old mid rows : List StateSet) (was half now : List ℕ) (e f : Tree)
      → Knows n old was e a h mid half → Knows h mid half f b m rows now
      → Knows n old was (either e f) r m rows now

-- of a part any number of times
pub record IsMany (a : Part) (before after : List StateSet) (r : Part) : Type 0 where
  pub knows : (n m : ℕ) (old : List StateSet) (was now : List ℕ) (e : Tree)
      → Knows n old was e a m before now → Knows n old was (many e) r m after now
