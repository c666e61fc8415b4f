-- When the answer to an ask is yes, by the tables that a walk is lent.
use Rattle.std.specs.Prelude.{◌≡◌, ◌↔◌, Bool, IsTrue, Option, Some, List, ℕ, ◌<◌}
use Rattle.kinds.specs.Kinds.{most_individuals}
use Rattle.sets.specs.Bits.{Has, Meets}
use Rattle.sets.specs.declared.states.StateSet.{StateSet}
use Rattle.kinds.specs.declared.Ask.{Ask}
use Rattle.kinds.specs.declared.Ask.TheVariants.{Pair, From}
use Rattle.walk.specs.declared.question.Question.{Question}
use Rattle.walk.specs.declared.strides.Strides.{Strides}
use Rattle.sets.specs.Relations.{states_at}
use Rattle.walk.specs.Strides.{Reaches}

-- an individual's set has a final state
abbrev pub PairHit : List StateSet → ℕ → ℕ → Type 0
PairHit reached finals second = Meets (states_at reached second) finals

-- some individual's set has an accepts of it
pub record FromHit (reached accepting : List StateSet) : Type 0 where
  pub to : ℕ
  pub low : to < most_individuals
  pub meets : Meets (states_at reached to) (states_at accepting to)

-- what the walk from the first individual reached makes the answer yes
abbrev pub Hit : List StateSet → Question → Ask → Type 0
Hit reached q (Pair first second) = PairHit reached q.finals.0 second.0
Hit reached q (From first) = FromHit reached q.accepting.now.rows

module _ (loops transitions : List (List StateSet)) (facts : List ℕ) (question : Question) where
  -- strides lead from the first individual in the start state to the second in a final one
  pub record PairAsked (first second : ℕ) : Type 0 where
    pub state : ℕ
    pub final : Has question.finals.0 state
    pub reaches : Reaches loops transitions facts first question.start.0 second state

  -- or to any individual in an accepts of it
  pub record FromAsked (first : ℕ) : Type 0 where
    pub to : ℕ
    pub state : ℕ
    pub low : to < most_individuals
    pub accepts : Has (states_at question.accepting.now.rows to) state
    pub reaches : Reaches loops transitions facts first question.start.0 to state

  -- the answer to an ask is yes
  abbrev pub Asked : Ask → Type 0
  Asked (Pair first second) = PairAsked first.0 second.0
  Asked (From first) = FromAsked first.0

abbrev pub YesBy : Strides → Question → Ask → Type 0
YesBy s = Asked s.loops.now.rows s.transitions.now s.edges.now.facts.numbers.now

-- v is an answer to the ask, and right
pub record IsAnswer (s : Strides) (question : Question) (ask : Ask) (v : Option Bool) : Type 0 where
  pub answer : Bool
  pub is : v ≡ Some answer
  pub right : IsTrue answer ↔ YesBy s question ask
