-- What a walk keeps: the sets reached so far, and in each the states that were followed.
use Rattle.std.specs.Prelude.{◌≡◌, ◌⊎◌, ⊤, Bool, true, false, Option, None, Some, List, ℕ, ◌+◌, ◌^◌, ◌<◌, ◌≤◌, length}
use Rattle.std.specs.List.{sum_by}
use Rattle.std.specs.Option.{ForSome}
use Rattle.kinds.specs.declared.Individual.{Individual}
use Rattle.kinds.specs.declared.State.{State}
use Rattle.kinds.specs.Kinds.{most_individuals, most_states}
use Rattle.sets.specs.Bits.{Has, IsUnion, state_width}
use Rattle.sets.specs.declared.states.StateSet.{StateSet}
use Rattle.edges.specs.declared.FactEdge.{FactEdge}
use Rattle.theory.specs.Run.{Run}
use Rattle.walk.specs.declared.known.Known.{Known}
use Rattle.walk.specs.declared.walk.Guide.{Guide}
use Rattle.walk.specs.declared.walk.Walk.{Walk}
use Rattle.sets.specs.Relations.{states_at, relation_at, Relates, LedFrom}
use Rattle.walk.specs.Directions.{Led, Move}
use Rattle.walk.specs.Known.{most_kept, place_in, IsKnown, kept_at}

-- the individuals are tested in groups of this size
abbrev pub group : ℕ
group = 15

-- A walk follows the edges that these role facts make.
abbrev pub facts_of : Guide → List ℕ
facts_of g = g.strides.edges.now.facts.numbers.now

-- the signed roles for which the edges are listed
abbrev pub roles_of : Guide → ℕ
roles_of g = g.strides.edges.now.roles.0

abbrev pub MoveOf : Guide → ℕ → ℕ → ℕ → ℕ → Type 0
MoveOf g =
    Move g.directed.now.direction g.strides.loops.now.rows g.directed.now.transitions.now (facts_of g)
    (roles_of g)

-- from s to t by the transitions of a role
abbrev pub LedByRole : Guide → ℕ → ℕ → ℕ → Type 0
LedByRole g R = Relates (relation_at g.directed.now.transitions.now R)

-- the sets as numbers, together: they grow
abbrev pub total : List StateSet → ℕ
total sets = sum_by (λ (x : StateSet). x.0) sets

-- a set for each individual, as the code holds them
pub record Ready (sets : List StateSet) : Type 0 where
  pub long : length sets ≡ most_individuals
  pub small : (b : ℕ) → b < most_individuals → states_at sets b < 2 ^ state_width

-- new has what old has, and grew says whether it has more
pub record Raised (old new : List StateSet) (grew : Bool) : Type 0 where
  pub ready : Ready old → Ready new
  pub keeps : (b t : ℕ) → Has (states_at old b) t → Has (states_at new b) t
  pub still : grew ≡ false → new ≡ old
  pub grows : grew ≡ true → total old < total new

-- the pairs of P, individual and state, are added
pub record Grows (P : ℕ → ℕ → Type 0) (old new : List StateSet) (grew : Bool) : Type 0 where
  pub raised : Raised old new grew
  pub comes : (b t : ℕ) → Has (states_at new b) t → Has (states_at old b) t ⊎ P b t
  pub has : (b t : ℕ) → P b t → Has (states_at new b) t

-- the states of a set, at one individual
pub record InSet (x m b t : ℕ) : Type 0 where
  pub there : b ≡ x
  pub in_set : Has m t

-- an edge leads from a state of m to b in t
pub record ByEdge (g : Guide) (edge : FactEdge) (m b t : ℕ) : Type 0 where
  pub there : b ≡ edge.to.0
  pub led : LedFrom (LedByRole g edge.role.0) m t

-- one of some edges does
pub record ByEdges (g : Guide) (E : FactEdge → Type 0) (m b t : ℕ) : Type 0 where
  pub edge : FactEdge
  pub among : E edge
  pub there : b ≡ edge.to.0
  pub led : LedFrom (LedByRole g edge.role.0) m t

-- the states that a relation leads to from s
pub data Looped (L : ℕ → ℕ → Type 0) (s : ℕ) : ℕ → Type 0 where
  none : Looped L s s
  more : {t u : ℕ} → Looped L s t → L t u → Looped L s u

-- r is m and all to which the relation leads from it
pub record IsClosure (L : ℕ → ℕ → Type 0) (m r : ℕ) : Type 0 where
  pub keeps : (t : ℕ) → Has m t → Has r t
  pub sound : (t : ℕ) → Has r t → LedFrom (Looped L) m t
  pub closed : (s t : ℕ) → Has r s → L s t → Has r t

abbrev pub IsWithLoops : Guide → ℕ → ℕ → ℕ → Type 0
IsWithLoops g a = IsClosure (Led g.directed.now.direction (relation_at g.strides.loops.now.rows a))

-- where the test fails, all states of the n individuals from `at` on were followed
pub record Behind (at n : ℕ) (reached followed : List StateSet) (test : Bool) : Type 0 where
  pub clean : test ≡ false → (k : ℕ) → at ≤ k → k < at + n
      → states_at followed k ≡ states_at reached k

-- each state of the individuals below n was followed
pub record AllFollowed (n : ℕ) (reached followed : List StateSet) : Type 0 where
  pub at : (k : ℕ) → k < n → states_at followed k ≡ states_at reached k

-- the nodes that count: all, or those of some sets
abbrev pub Counts : Option (List StateSet) → ℕ → ℕ → Type 0
Counts None b t = ⊤
Counts (Some sets) b t = Has (states_at sets b) t

module _ (M : ℕ → ℕ → ℕ → ℕ → Type 0) where
  -- no stride leads from another node to one that counts
  pub record StaysAmong (among : Option (List StateSet)) : Type 0 where
    pub at : (a s b t : ℕ) → M a s b t → Counts among b t → Counts among a s

  -- of the nodes that count, reached has only those that strides reach
  pub record IsSound (among : Option (List StateSet)) (from start : ℕ) (reached : List StateSet)
      : Type 0 where
    pub at : (b t : ℕ) → Has (states_at reached b) t → Counts among b t → Run M from start b t

  -- reached has what was followed, and what strides reach from it at once
  pub record IsClosed (reached followed : List StateSet) : Type 0 where
    pub within : (a s : ℕ) → Has (states_at followed a) s → Has (states_at reached a) s
    pub strides : (a s b t : ℕ) → Has (states_at followed a) s → M a s b t
        → Has (states_at reached b) t

  -- the individuals from lo up to hi were visited; again says whether another set may have grown
  pub record Visited (lo hi : ℕ) (r f r' f' : List StateSet) (again : Bool) : Type 0 where
    pub ready : Ready r'
    pub long : length f' ≡ most_individuals
    pub keeps : (b t : ℕ) → Has (states_at r b) t → Has (states_at r' b) t
    pub sound : (among : Option (List StateSet)) (from start : ℕ) → StaysAmong among
        → IsSound among from start r → IsSound among from start r'
    pub closed : IsClosed r f → IsClosed r' f'
    pub most : total r ≤ total r'
    pub grows : again ≡ true → total r < total r'
    pub all_followed : again ≡ false → AllFollowed lo r f → AllFollowed hi r' f'

  -- the states in which each individual is reached
  pub record Found (first : Individual) (start : State) (r : List StateSet) : Type 0 where
    pub long : length r ≡ most_individuals
    pub sound : (b t : ℕ) → Has (states_at r b) t
        → (first.0 < most_individuals) × (start.0 < most_states) × Run M first.0 start.0 b t
    pub full : (b t : ℕ) → first.0 < most_individuals → start.0 < most_states
        → Run M first.0 start.0 b t → Has (states_at r b) t

  -- the sets have nodes that strides reach from a in s, and all that they reach from these
  pub record AreAhead (a s : ℕ) (sets : List StateSet) : Type 0 where
    pub long : length sets ≡ most_individuals
    pub sound : (b t : ℕ) → Has (states_at sets b) t → Run M a s b t
    pub closed : (b t c u : ℕ) → Has (states_at sets b) t → M b t c u → Has (states_at sets c) u

  -- what is kept for each individual that is known is ahead of it in the state
  pub record AreKnownBy (state : ℕ) (k : Known) : Type 0 where
    pub many : length k.sets ≡ most_kept
    pub at : (a : ℕ) → a < most_individuals → IsKnown k a
        → AreAhead a state (kept_at k (place_in k a))

-- the individuals from lo up to hi were visited, in a walk under way
abbrev pub Passes : Guide → ℕ → ℕ → Walk → Walk → Bool → Type 0
Passes g lo hi old new =
    Visited (MoveOf g) lo hi old.reached old.followed new.reached new.followed

abbrev pub Finds : Guide → Individual → State → List StateSet → Type 0
Finds g = Found (MoveOf g)

-- A walk may start with what is known of some individuals. What is known is then true of the strides
-- of this walk.
abbrev pub IsLent : Guide → Type 0
IsLent g = ForSome g.known (λ k. AreKnownBy (MoveOf g) g.state.0 k.now)

-- new is old with the sets of the first n individuals
pub record JoinedBelow (sets : List StateSet) (n : ℕ) (old new : List StateSet) : Type 0 where
  pub long : length new ≡ length old
  pub here : (b : ℕ) → b < n → IsUnion (states_at old b) (states_at sets b) (states_at new b)
  pub rest : (b : ℕ) → n ≤ b → states_at new b ≡ states_at old b

-- the sets of the first n individuals are put into what was reached and into what was followed
pub record Absorbs (sets : List StateSet) (n : ℕ) (old new : Walk) : Type 0 where
  pub reached : JoinedBelow sets n old.reached new.reached
  pub followed : JoinedBelow sets n old.followed new.followed
  pub ready : Ready new.reached
  pub long : length new.followed ≡ most_individuals
  pub most : total old.reached ≤ total new.reached

-- r has none of the nodes of the sets
pub record AreOutside (sets r : List StateSet) : Type 0 where
  pub ready : Ready r
  pub none : (b t : ℕ) → Has (states_at r b) t → Has (states_at sets b) t → ⊥
