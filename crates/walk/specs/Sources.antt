-- Which of some first individuals reach each node, as words of bits. A node is an individual in a
-- state.
use Rattle.std.specs.Prelude.{◌↔◌, List, [], ℕ, ◌<◌, slice_index, slice_index_or}
use Rattle.kinds.specs.declared.Individual.{Individual}
use Rattle.kinds.specs.declared.State.{State}
use Rattle.kinds.specs.Kinds.{individual}
use Rattle.sets.specs.Bits.{Has}
use Rattle.sets.specs.declared.states.StateSet.{StateSet}
use Rattle.sets.specs.Relations.{states_at}
use Rattle.walk.specs.declared.strides.Strides.{Strides}
use Rattle.walk.specs.Walks.{ReachesBy}

-- the most firsts that walk together
abbrev pub most_sources : ℕ
most_sources = 128

-- the word of the node of b in t
abbrev pub word_at : List (List ℕ) → ℕ → ℕ → ℕ
word_at words b t = slice_index (slice_index_or words b []) t

-- first k is marked at the node
abbrev pub Marked : List (List ℕ) → ℕ → ℕ → ℕ → Type 0
Marked words k b t = Has (word_at words b t) k

-- the number of first k
abbrev pub first_at : List Individual → ℕ → ℕ
first_at firsts k = (slice_index_or firsts k (individual 0)).0

-- first k is in a state of the set
pub record InState (states : ℕ) (words : List ℕ) (k : ℕ) : Type 0 where
  pub state : ℕ
  pub has : Has states state
  pub first : Has (slice_index words state) k

pub record IsAt (states : ℕ) (words : List ℕ) (word : ℕ) : Type 0 where
  pub at : (k : ℕ) → Has word k ↔ InState states words k

-- first k is at one of the individuals below n, in a state of its set
pub record InOne (words : List (List ℕ)) (sets : List StateSet) (n k : ℕ) : Type 0 where
  pub to : ℕ
  pub low : to < n
  pub in_state : InState (states_at sets to) (slice_index_or words to []) k

pub record IsIn (words : List (List ℕ)) (sets : List StateSet) (n word : ℕ) : Type 0 where
  pub at : (k : ℕ) → Has word k ↔ InOne words sets n k

-- of the firsts below a count, first k is marked at a node exactly where strides lead from it to
-- the node
pub record AreMarked (s : Strides) (firsts : List Individual) (count : ℕ) (start : State)
    (words : List (List ℕ)) : Type 0 where
  pub at : (k b t : ℕ)
      → Marked words k b t ↔ ((k < count) × ReachesBy s (first_at firsts k) start.0 b t)
