-- What the transitions say: where a signed role R leads from s to t, by a role step S with R ≤ S.
use Rattle.std.specs.Prelude.{◌≡◌, ◌↔◌, ◌⊎◌, List, ℕ, ◌<◌, length}
use Rattle.kinds.specs.Kinds.{most_states, state, signed}
use Rattle.laws.specs.Loops.{Witness}
use Rattle.meaning.specs.Collection.{Step, step, role}
use Rattle.sets.specs.Bits.{Has}
use Rattle.sets.specs.Relations.{relation_at}
use Rattle.sets.specs.declared.roles.RoleSet.{RoleSet}
use Rattle.sets.specs.declared.states.StateSet.{StateSet}
use Rattle.rules.specs.Rows.{most_edges, Lists, Relates}
use Rattle.rules.specs.Steps.{Among}

-- a role step by S leads from s to t
pub record StepBy (Is : Step → Type 0) (S s t : ℕ) : Type 0 where
  pub by_low : S < most_edges
  pub from_low : s < most_states
  pub to_low : t < most_states
  pub made : Is (step (state s) (role (signed S)) (state t))

-- and S is above R
pub record Transition (steps : List Step) (above : List RoleSet) (R s t : ℕ) : Type 0 where
  pub by : ℕ
  pub leads : StepBy (Among steps) by s t
  pub follows : Lists above R by

-- the transitions of each signed role
pub record AreTransitions (steps : List Step) (above : List RoleSet)
    (transitions : List (List StateSet)) : Type 0 where
  pub at : (R s t : ℕ) → R < most_edges → Relates (relation_at transitions R) s t ↔ Transition steps above R s t

-- ---- what the loops do

-- new leads where old does, and from s to t where P s t
pub record Gains (P : ℕ → ℕ → Type 0) (old new : List StateSet) : Type 0 where
  pub long : length new ≡ length old
  pub at : (s t : ℕ) → Relates new s t ↔ (Relates old s t ⊎ P s t)

-- one pair, of states that have a row
pub record Pair (from to s t : ℕ) : Type 0 where
  pub from_is : s ≡ from
  pub to_is : t ≡ to
  pub from_low : from < most_states
  pub to_low : to < most_states

-- where a relation leads from the states below n
pub record Below (other : List StateSet) (n s t : ℕ) : Type 0 where
  pub low : s < n
  pub leads : Relates other s t

-- where one leads of those of a set of roles
abbrev pub ByOne : List (List StateSet) → ℕ → ℕ → ℕ → Type 0
ByOne own roles s t = Witness (Has roles) (λ by. Below (relation_at own by) most_states s t)

-- a relation that leads exactly there
pub record IsJoined (own : List (List StateSet)) (roles : ℕ) (way : List StateSet) : Type 0 where
  pub at : (s t : ℕ) → Relates way s t ↔ ByOne own roles s t

-- a relation for each role: new leads where old does, and where P says
pub record GainsEach (P : ℕ → ℕ → ℕ → Type 0) (old new : List (List StateSet)) : Type 0 where
  pub long : length new ≡ length old
  pub at : (S s t : ℕ) → Relates (relation_at new S) s t ↔ (Relates (relation_at old S) s t ⊎ P S s t)
