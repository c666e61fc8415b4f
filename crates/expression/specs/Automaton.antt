-- The automaton of an expression: its steps and final states, as a question has them.
use Rattle.std.specs.Prelude.{◌↔◌, List}
use Rattle.kinds.specs.declared.State.{State}
use Rattle.laws.specs.Member.{◌∈◌}
use Rattle.meaning.specs.Collection.{Letter, Step, step}
use Rattle.expression.specs.Tree.{Tree, StepsInto, EndsAt}

-- these steps, and these final states, are those of the expression
pub record IsAutomaton (e : Tree) (all : List Step) (ends : List State) : Type 0 where
  pub steps : (s : State) (l : Letter) (t : State) → (step s l t ∈ all) ↔ StepsInto e s.0 l t.0
  pub finals : (t : State) → (t ∈ ends) ↔ EndsAt e t.0
