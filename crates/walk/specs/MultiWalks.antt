-- What walks of many firsts keep while marks are added: a node whose mark grew is behind until its
-- strides are followed.
use Rattle.std.specs.Prelude.{◌≡◌, ◌⊎◌, Bool, true, false, List, [], ℕ, ◌+◌, ◌-◌, ◌*◌, ◌^◌, ◌<◌, ◌≤◌, length, slice_index_or}
use Rattle.std.specs.List.{sum_by}
use Rattle.kinds.specs.declared.Individual.{Individual}
use Rattle.kinds.specs.Kinds.{most_individuals, most_states, most_roles}
use Rattle.sets.specs.Bits.{Has, state_width}
use Rattle.sets.specs.declared.states.StateSet.{StateSet}
use Rattle.edges.specs.declared.FactEdge.{FactEdge}
use Rattle.walk.specs.declared.multi.MultiWalk.{MultiWalk}
use Rattle.walk.specs.declared.strides.Strides.{Strides}
use Rattle.sets.specs.Relations.{states_at, relation_at}
use Rattle.walk.specs.Sources.{most_sources, word_at, Marked, first_at}
use Rattle.theory.specs.Run.{Run}
use Rattle.walk.specs.Walks.{StrideBy, ReachesBy}

-- the individuals are tested in groups of this size
abbrev pub group : ℕ
group = 15

abbrev pub Within : ℕ → ℕ → Type 0
Within m n = (k : ℕ) → Has m k → Has n k

-- ---- how much is left to do, which ends the sweeps

-- the sum of all words as numbers, which grows with each mark
abbrev pub row_total : List ℕ → ℕ
row_total row = sum_by (λ (n : ℕ). n) row

abbrev pub words_total : List (List ℕ) → ℕ
words_total words = sum_by row_total words

-- the sum of all sets as numbers
abbrev pub sets_total : List StateSet → ℕ
sets_total sets = sum_by (λ (x : StateSet). x.0) sets

-- a bound of the sum of words, and one of the sum of sets
abbrev pub most_words : ℕ
most_words = most_individuals * (most_states * 2 ^ most_sources)

abbrev pub most_sets : ℕ
most_sets = 2 ^ 40

-- a mark leaves less room for marks; where none is added, a node less is behind
unfoldable pub left : MultiWalk → ℕ
left w = (most_words - words_total w.words) * most_sets + sets_total w.behind

-- ---- one change

-- a word for each node, of firsts that are awaited; where a node is full, all of these are marked
pub record Ready (w : MultiWalk) : Type 0 where
  pub wide : length w.words ≡ most_individuals
  pub long : (a : ℕ) → a < most_individuals → length (slice_index_or w.words a []) ≡ most_states
  pub fits : (a t : ℕ) → word_at w.words a t < 2 ^ most_sources
  pub many : length w.behind ≡ most_individuals
  pub small : (a : ℕ) → states_at w.behind a < 2 ^ state_width
  pub within : (k a t : ℕ) → Marked w.words k a t → Has w.all k
  pub full : (k a t : ℕ) → Has (states_at w.full a) t → Has w.all k → Marked w.words k a t

-- the marks of P are added: first, individual and state; a node whose mark grew is behind
pub record Grown (P : ℕ → ℕ → ℕ → Type 0) (old new : MultiWalk) : Type 0 where
  pub ready : Ready new
  pub all : new.all ≡ old.all
  pub keeps : (k y u : ℕ) → Marked old.words k y u → Marked new.words k y u
  pub comes : (k y u : ℕ) → Marked new.words k y u → Marked old.words k y u ⊎ P k y u
  pub has : (k y u : ℕ) → P k y u → Marked new.words k y u
  pub waits : (y u : ℕ) → Has (states_at old.behind y) u → Has (states_at new.behind y) u
  pub put : (k y u : ℕ) → Marked new.words k y u
      → Marked old.words k y u ⊎ Has (states_at new.behind y) u
  pub less : left new ≤ left old

-- some firsts at one node; a state past the last has no mark
pub record At (b t sources k y u : ℕ) : Type 0 where
  pub there : y ≡ b
  pub state : u ≡ t
  pub low : u < most_states
  pub first : Has sources k

-- at one individual, in each state of a set
pub record InStates (b m sources k y u : ℕ) : Type 0 where
  pub there : y ≡ b
  pub low : u < most_states
  pub in_set : Has m u
  pub first : Has sources k

-- at each individual below n, in each state of its set
pub record InSets (sets : List StateSet) (n sources k y u : ℕ) : Type 0 where
  pub there : y < n
  pub low : u < most_states
  pub in_set : Has (states_at sets y) u
  pub first : Has sources k

-- where one edge leads from the state t
abbrev pub ByEdge : Strides → FactEdge → ℕ → ℕ → ℕ → ℕ → ℕ → Type 0
ByEdge s edge t = InStates edge.to.0 (states_at (relation_at s.transitions.now edge.role.0) t)

-- where some edges lead from the state t
pub record ByEdges (s : Strides) (E : FactEdge → Type 0) (t sources k y u : ℕ) : Type 0 where
  pub edge : FactEdge
  pub among : E edge
  pub there : y ≡ edge.to.0
  pub low : u < most_states
  pub to : Has (states_at (relation_at s.transitions.now edge.role.0) t) u
  pub first : Has sources k

-- where strides lead from the node of a in t
pub record ByStrides (s : Strides) (a t sources k y u : ℕ) : Type 0 where
  pub stride : StrideBy s a t y u
  pub low : u < most_states
  pub first : Has sources k

-- the state t may have become full at the individual b
pub record Fills (b t : ℕ) (all_reach : Bool) (old new : List StateSet) : Type 0 where
  pub comes : (y u : ℕ) → Has (states_at new y) u
      → Has (states_at old y) u ⊎ ((y ≡ b) × (u ≡ t) × (all_reach ≡ true))

-- ---- sweeps

-- Marks hold what strides reach, and strides lead from a node that is not behind to nodes with its
-- marks. Of each first this is the invariant of its own walk
pub record Walking (s : Strides) (firsts : List Individual) (count start : ℕ) (w : MultiWalk)
    : Type 0 where
  pub begins : (k : ℕ) → k < count → first_at firsts k < most_individuals → start < most_states
      → Marked w.words k (first_at firsts k) start
  pub sound : (k y u : ℕ) → Marked w.words k y u
      → (k < count) × ReachesBy s (first_at firsts k) start y u
  pub closed : (k y u c t : ℕ) → t < most_states → StrideBy s y u c t → Marked w.words k y u
      → Marked w.words k c t ⊎ Has (states_at w.behind y) u

-- whatever the firsts are, their walks go on
pub record Kept (s : Strides) (old new : MultiWalk) : Type 0 where
  pub ready : Ready new
  pub walks : (firsts : List Individual) (count start : ℕ) → Walking s firsts count start old
      → Walking s firsts count start new

-- some nodes were led on, or none
pub record Goes (s : Strides) (old new : MultiWalk) (led : Bool) : Type 0 where
  pub kept : Kept s old new
  pub most : left new ≤ left old
  pub less : led ≡ true → left new < left old

-- a node was led on
pub record Leads (s : Strides) (old new : MultiWalk) : Type 0 where
  pub kept : Kept s old new
  pub less : left new < left old

-- no individual of the n from a place on is behind in a state among some
abbrev pub IsClean : ℕ → ℕ → ℕ → MultiWalk → Type 0
IsClean among lo hi w = (y u : ℕ) → lo ≤ y → y < hi → Has (states_at w.behind y) u → Has among u → ⊥

pub record Behind (among at n : ℕ) (w : MultiWalk) (test : Bool) : Type 0 where
  pub clean : test ≡ false → IsClean among at (at + n) w

-- the individuals from lo up to hi were visited; where none of them was behind nothing is changed
pub record Swept (s : Strides) (among lo hi : ℕ) (old new : MultiWalk) (led : Bool) : Type 0 where
  pub kept : Kept s old new
  pub most : left new ≤ left old
  pub less : led ≡ true → left new < left old
  pub still : led ≡ false → new ≡ old
  pub clean : led ≡ false → IsClean among lo hi old

-- walks go on; where it is not to go on, no individual is behind in a state among some
pub record Tries (s : Strides) (among : ℕ) (old new : MultiWalk) (again : Bool) : Type 0 where
  pub kept : Kept s old new
  pub clean : again ≡ false → (y u : ℕ) → Has (states_at new.behind y) u → Has among u → ⊥

-- no individual is behind in a state among some, or in any
pub record Exhausts (s : Strides) (among : ℕ) (old new : MultiWalk) : Type 0 where
  pub kept : Kept s old new
  pub clean : (y u : ℕ) → Has (states_at new.behind y) u → Has among u → ⊥

pub record ExhaustsAll (s : Strides) (old new : MultiWalk) : Type 0 where
  pub kept : Kept s old new
  pub clean : (y u : ℕ) → Has (states_at new.behind y) u → ⊥

-- ---- a jump

-- first k is marked at a node from which strides lead to b in t
pub record MarkedBefore (s : Strides) (b t : ℕ) (words : List (List ℕ)) (k : ℕ) : Type 0 where
  pub individual : ℕ
  pub state : ℕ
  pub marked : Marked words k individual state
  pub leads : Run (StrideBy s) individual state b t

-- so is each first of a word
pub record LeadThere (s : Strides) (b t : ℕ) (words : List (List ℕ)) (word : ℕ) : Type 0 where
  pub each : (k : ℕ) → Has word k → MarkedBefore s b t words k

-- the state t of the individual b may be behind no longer
pub record CatchesUp (b t : ℕ) (caught_up : Bool) (old new : List StateSet) : Type 0 where
  pub many : length new ≡ length old
  pub comes : (y u : ℕ) → Has (states_at new y) u → Has (states_at old y) u
  pub stays : (y u : ℕ) → Has (states_at old y) u
      → Has (states_at new y) u ⊎ ((y ≡ b) × (u ≡ t) × (caught_up ≡ true))

-- first k was marked at the node, which is still behind if it was
pub record Stays (old new : MultiWalk) (k y u : ℕ) : Type 0 where
  pub marked : Marked old.words k y u
  pub behind : Has (states_at old.behind y) u → Has (states_at new.behind y) u

-- The marks of P are added, and each other mark stays. Only where all marks of a node are of P may
-- it be behind no longer
pub record Settled (P : ℕ → ℕ → ℕ → Type 0) (old new : MultiWalk) : Type 0 where
  pub ready : Ready new
  pub all : new.all ≡ old.all
  pub keeps : (k y u : ℕ) → Marked old.words k y u → Marked new.words k y u
  pub has : (k y u : ℕ) → P k y u → Marked new.words k y u
  pub others : (k y u : ℕ) → Marked new.words k y u → P k y u ⊎ Stays old new k y u

-- ---- the start

-- no node is marked
pub record IsUnmarked (w : MultiWalk) : Type 0 where
  pub wide : length w.words ≡ most_individuals
  pub long : (a : ℕ) → a < most_individuals → length (slice_index_or w.words a []) ≡ most_states
  pub none : (a t : ℕ) → word_at w.words a t ≡ 0
  pub many : length w.behind ≡ most_individuals
  pub clean : (a : ℕ) → states_at w.behind a ≡ 0
  pub empty : (a : ℕ) → states_at w.full a ≡ 0

-- first i in the start state, if both have a row
pub record StartsAt (firsts : List Individual) (start i k y u : ℕ) : Type 0 where
  pub own : k ≡ i
  pub there : y ≡ first_at firsts i
  pub row : y < most_individuals
  pub state : u ≡ start
  pub low : u < most_states

-- the firsts below n are marked in the start state, of those below a count
pub record Begun (firsts : List Individual) (start count n : ℕ) (w : MultiWalk) : Type 0 where
  pub ready : Ready w
  pub awaits : (k : ℕ) → k < count → Has w.all k
  pub begins : (k : ℕ) → k < n → first_at firsts k < most_individuals → start < most_states
      → Marked w.words k (first_at firsts k) start
  pub sound : (k y u : ℕ) → Marked w.words k y u → (k < n) × StartsAt firsts start k k y u
  pub behind : (k y u : ℕ) → Marked w.words k y u → Has (states_at w.behind y) u

-- a row has a set for each state, and leads to states alone
pub record IsRow (row : List StateSet) : Type 0 where
  pub long : length row ≡ most_states
  pub small : (t : ℕ) → states_at row t < 2 ^ most_states

-- so it is of each row that strides are lent
pub record AreRows (s : Strides) : Type 0 where
  pub loops : (a : ℕ) → a < most_individuals → IsRow (relation_at s.loops.now.rows a)
  pub transitions : (r : ℕ) → r < 2 * most_roles → IsRow (relation_at s.transitions.now r)
