-- What walks forward and backward along the strides that are lent find.
use Rattle.std.specs.Prelude.{◌≡◌, List, ℕ, length}
use Rattle.kinds.specs.declared.Individual.{Individual}
use Rattle.kinds.specs.declared.State.{State}
use Rattle.kinds.specs.Kinds.{most_individuals}
use Rattle.sets.specs.Bits.{Has}
use Rattle.sets.specs.declared.states.StateSet.{StateSet}
use Rattle.theory.specs.Run.{Run}
use Rattle.edges.specs.declared.FactEdge.{FactEdge}
use Rattle.edges.specs.Edges.{HasEdge}
use Rattle.walk.specs.declared.strides.Strides.{Strides}
use Rattle.sets.specs.Relations.{states_at}
use Rattle.walk.specs.Strides.{TableStride, Reaches, Walked}

-- an edge at the individual a that is listed for walks
abbrev pub EdgeOf : Strides → ℕ → FactEdge → Type 0
EdgeOf s = HasEdge s.edges.now.facts.numbers.now s.edges.now.roles.0

-- one stride
abbrev pub StrideBy : Strides → ℕ → ℕ → ℕ → ℕ → Type 0
StrideBy s = TableStride s.loops.now.rows s.transitions.now s.edges.now.facts.numbers.now

-- strides lead from the first individual in the start state to b in t
abbrev pub ReachesBy : Strides → ℕ → ℕ → ℕ → ℕ → Type 0
ReachesBy s = Reaches s.loops.now.rows s.transitions.now s.edges.now.facts.numbers.now

-- the walk from an individual in a state
abbrev pub WalkedBy : Strides → Individual → State → List StateSet → Type 0
WalkedBy s = Walked s.loops.now.rows s.transitions.now s.edges.now.facts.numbers.now

-- r has none but nodes from which strides lead to the last individual in a state
pub record LeadTo (s : Strides) (last : Individual) (state : State) (r : List StateSet) : Type 0
  where
    pub long : length r ≡ most_individuals
    pub leads : (a u : ℕ) → Has (states_at r a) u → Run (StrideBy s) a u last.0 state.0

-- those nodes of r that are ahead lead to the last individual in a state
pub record LeadToAmong (s : Strides) (ahead : List StateSet) (last : Individual) (state : State)
    (r : List StateSet) : Type 0 where
  pub leads : (a u : ℕ) → Has (states_at ahead a) u → Has (states_at r a) u
      → Run (StrideBy s) a u last.0 state.0
