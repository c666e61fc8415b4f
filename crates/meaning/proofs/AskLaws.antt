-- What holds of each ask, by its cases: its words, growth, every world.
use Rattle.std.specs.Prelude.{◌↔◌}
use Rattle.kinds.specs.declared.Ask.{Ask}
use Rattle.kinds.specs.declared.Ask.TheVariants.{Pair, From}
use Rattle.kinds.specs.Asks.{AskDeclared}
use Rattle.meaning.specs.Collection.{Collection, WellFormed}
use Rattle.meaning.specs.Asks.{IsYes, IsSpelled}
use Rattle.meaning.specs.Demands.{Larger}
use Rattle.meaning.specs.Worlds.{World, Keeps, HasPathIn, model_world}
use Rattle.meaning.proofs.QuestionLaws.{yes↔word}
use Rattle.meaning.proofs.LeavingLaws.{leaves↔word}
use Rattle.meaning.proofs.Larger.{yes-grows, leaves-grows}
use Rattle.meaning.proofs.Forced.{yes-in, leaves-in, yes-out, leaves-out}

module _ (𝓒 : Collection) where
  -- THEOREM: elements and states in step, and words spelled and read, are the same
  pub ask↔word : (ask : Ask) → IsYes 𝓒 ask ↔ IsSpelled 𝓒 ask
  ask↔word (Pair a b) = yes↔word 𝓒 a b
  ask↔word (From a) = leaves↔word 𝓒 a

  -- THEOREM: what is yes in the model has its path in every world that has the facts and keeps the rules,
  pub ask-in : (𝓦 : World) → Keeps 𝓒 𝓦 → (ask : Ask) → IsYes 𝓒 ask → HasPathIn 𝓒 𝓦 ask
  ask-in 𝓦 keeps (Pair a b) y = yes-in 𝓒 𝓦 keeps a b y
  ask-in 𝓦 keeps (From a) y = leaves-in 𝓒 𝓦 keeps a y

  -- and what has its path in the model as a world is yes
  pub ask-out : (ask : Ask) → HasPathIn 𝓒 (model_world 𝓒) ask → IsYes 𝓒 ask
  ask-out (Pair a b) y = yes-out 𝓒 a b y
  ask-out (From a) y = leaves-out 𝓒 a y

-- THEOREM: a larger collection keeps a yes
pub ask-grows : {𝓒 𝓓 : Collection} → Larger 𝓒 𝓓 → WellFormed 𝓒 → WellFormed 𝓓 → (ask : Ask) → AskDeclared 𝓒.counts ask → AskDeclared 𝓓.counts ask
    → IsYes 𝓒 ask → IsYes 𝓓 ask
ask-grows more ok ok' (Pair a b) d e y = yes-grows more ok ok' a b d.0 e.0 y
ask-grows more ok ok' (From a) d e y = leaves-grows more ok ok' a y
