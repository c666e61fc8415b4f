-- What a row of marks is answered: too deep, no expression, too many marks, or its automaton.
use Rattle.std.specs.Prelude.{◌≡◌, ◌↔◌, List, [], ℕ, ◌+◌, ◌<◌, ◌≤◌}
use Rattle.kinds.specs.declared.Ask.{Ask}
use Rattle.kinds.specs.declared.Ask.TheVariants.{Pair, From}
use Rattle.kinds.specs.Kinds.{most_states}
use Rattle.meaning.specs.Collection.{Collection, Letter}
use Rattle.meaning.specs.Model.{Element, canonical}
use Rattle.meaning.specs.Question.{Spells}
use Rattle.meaning.specs.Asks.{IsSpelled}
use Rattle.theory.specs.Tree.{root}
use Rattle.expression.specs.Tree.{Tree, WordOf}
use Rattle.expression.specs.Grammar.{Expression, IsExpression}
use Rattle.expression.specs.Depth.{TooDeep}
use Rattle.expression.specs.Listed.{Listed, Lists, AsksBy, ReadsExactly}

-- a row is at most one expression
abbrev pub IsAtMostOne : List ℕ → Type 0
IsAtMostOne row =
    (e f : Tree) (m n : ℕ) → IsExpression row e m → IsExpression row f n → (e ≡ f) × (m ≡ n)

-- not too deep, and no expression, even with brackets of any depth
pub record IsNoExpression (row : List ℕ) : Type 0 where
  pub shallow : ¬ TooDeep row
  pub none : (d : ℕ) (e : Tree) (m : ℕ) → ¬ Expression d 0 row e m []

-- an expression that is not too deep, of n role and test marks
pub record HasMarks (row : List ℕ) (n : ℕ) : Type 0 where
  pub shallow : ¬ TooDeep row
  pub tree : Tree
  pub is : IsExpression row tree n

-- its states are more than can be declared
pub record HasTooManyMarks (row : List ℕ) (n : ℕ) : Type 0 where
  pub marks : HasMarks row n
  pub more : most_states ≤ n

-- they can be declared
pub record HasAutomaton (row : List ℕ) : Type 0 where
  pub count : ℕ
  pub marks : HasMarks row count
  pub few : count < most_states

-- the tables are those of the row's expression, with a state for each mark beside the start
pub record IsAutomatonOf (row : List ℕ) (a : Listed) : Type 0 where
  pub tree : Tree
  pub marks : ℕ
  pub is : IsExpression row tree marks
  pub few : marks < most_states
  pub states : a.states ≡ marks + 1
  pub lists : Lists tree a

-- the words of a question by these tables are exactly those of the row's expression
abbrev pub ReadsItsWords : List ℕ → Listed → Type 0
ReadsItsWords row a = (e : Tree) (m : ℕ) → IsExpression row e m → ReadsExactly e a

-- a path in the model, as it is asked for, spells a word of the expression
abbrev pub SpellsExpression : Collection → Tree → Ask → Type 0
SpellsExpression 𝓒 e (Pair a b) =
    (w : List Letter) × WordOf e w × Spells (canonical 𝓒) (root a) w (root b)
SpellsExpression 𝓒 e (From a) =
    (w : List Letter) × WordOf e w × (x : Element 𝓒) × Spells (canonical 𝓒) (root a) w x

-- so that such a question asks for a path that spells a word of the expression
abbrev pub AsksForIt : List ℕ → Listed → Type 0
AsksForIt row l =
    (e : Tree) (m : ℕ) → IsExpression row e m → (𝓒 : Collection) → AsksBy 𝓒 l
    → (ask : Ask) → IsSpelled 𝓒 ask ↔ SpellsExpression 𝓒 e ask
