-- Laws of worlds: what the canonical model, and what an outcome, says of every world.
use Rattle.std.specs.Prelude.{List, ℕ}
use Rattle.kinds.specs.declared.Individual.{Individual}
use Rattle.kinds.specs.declared.Answer.TheVariants.{No, Yes, Contradiction, AllowanceSpent}
use Rattle.meaning.specs.Collection.{Collection, NumbersDeclared}
use Rattle.theory.specs.Tree.{root}
use Rattle.meaning.specs.Model as model
use Rattle.meaning.specs.Question as question
use Rattle.meaning.specs.Leaving.{LeavesIn, Leaves}
use Rattle.meaning.specs.Lent.{Call, collection_of}
use Rattle.meaning.specs.Outcome.{Outcome}
use Rattle.meaning.specs.Worlds.{World, Keeps, Respects, IsWorld, YesIn, HasPathIn, model_world}

module _ (𝓦 : World) where
  -- a yes of the canonical model has its path in each world that has the facts and keeps the rules
  abbrev pub YesIsForced : Type 0
  YesIsForced = (𝓒 : Collection) (a b : Individual) → question.Yes 𝓒 a b → Keeps 𝓒 𝓦
      → YesIn 𝓒 𝓦 a b

  -- so has an individual that a path of the canonical model leaves
  abbrev pub LeavingIsForced : Type 0
  LeavingIsForced = (𝓒 : Collection) (a : Individual) → Leaves 𝓒 a → Keeps 𝓒 𝓦
      → LeavesIn 𝓒 𝓦.structure (𝓦.person a)

  -- where the canonical model breaks an exclusion, the facts cannot be so: it is no world
  abbrev pub ContradictionLeavesNone : Type 0
  ContradictionLeavesNone = (𝓒 : Collection) → model.Contradiction 𝓒 → IsWorld 𝓒 𝓦 → ⊥

  -- the answer yes: facts and rules together force a path
  abbrev pub YesSaysForced : Type 0
  YesSaysForced = (c : Call) (n : ℕ) (x y : List ℕ) → Outcome c (Yes n) x y
      → IsWorld (collection_of c) 𝓦 → HasPathIn (collection_of c) 𝓦 c.ask

  -- the answer contradiction: the facts cannot be so
  abbrev pub ContradictionSaysNone : Type 0
  ContradictionSaysNone = (c : Call) (x y : List ℕ) → Outcome c Contradiction x y
      → IsWorld (collection_of c) 𝓦 → ⊥

-- the canonical model has the facts and keeps the rules,
abbrev pub ModelKeeps : Type 0
ModelKeeps = (𝓒 : Collection) → NumbersDeclared 𝓒 → Keeps 𝓒 (model_world 𝓒)

-- it breaks no exclusion, unless there is a contradiction,
abbrev pub ModelRespects : Type 0
ModelRespects = (𝓒 : Collection) → (model.Contradiction 𝓒 → ⊥) → Respects 𝓒 (model_world 𝓒)

-- and where it has a path as a world, the pair is yes: so only a yes is forced
abbrev pub OnlyYesIsForced : Type 0
OnlyYesIsForced = (𝓒 : Collection) (a b : Individual) → YesIn 𝓒 (model_world 𝓒) a b
    → question.Yes 𝓒 a b

-- and where a path leaves an individual in it as a world, one does in the canonical model
abbrev pub OnlyLeavingIsForced : Type 0
OnlyLeavingIsForced = (𝓒 : Collection) (a : Individual)
    → LeavesIn 𝓒 (model_world 𝓒).structure (root a) → Leaves 𝓒 a

-- the answers no, yes and allowance spent: the canonical model is a world,
abbrev pub NoLeavesOne : Type 0
NoLeavesOne = (c : Call) (n : ℕ) (x y : List ℕ) → Outcome c (No n) x y
    → IsWorld (collection_of c) (model_world (collection_of c))

abbrev pub YesLeavesOne : Type 0
YesLeavesOne = (c : Call) (n : ℕ) (x y : List ℕ) → Outcome c (Yes n) x y
    → IsWorld (collection_of c) (model_world (collection_of c))

abbrev pub SpentLeavesOne : Type 0
SpentLeavesOne = (c : Call) (n : ℕ) (x y : List ℕ) → Outcome c (AllowanceSpent n) x y
    → IsWorld (collection_of c) (model_world (collection_of c))

-- and after no it has no path: facts and rules do not force one
abbrev pub NoSaysNotForced : Type 0
NoSaysNotForced = (c : Call) (n : ℕ) (x y : List ℕ) → Outcome c (No n) x y
    → HasPathIn (collection_of c) (model_world (collection_of c)) c.ask → ⊥
