-- The question with one named end (docs/RULES.md, section 5): does a path leave an individual at all,
-- to any element whatever, named or not.
use Rattle.std.specs.Prelude.{List}
use Rattle.kinds.specs.declared.Individual.{Individual}
use Rattle.kinds.specs.declared.State.{State}
use Rattle.laws.specs.Member.{◌∈◌}
use Rattle.meaning.specs.Collection.{Collection, Letter}
use Rattle.theory.specs.Tree.{root}
use Rattle.meaning.specs.Model.{Structure, Element, canonical}
use Rattle.meaning.specs.Question.{PathIn, Spells, Word}

module _ (𝓒 : Collection) where
  -- a path runs from a thing in the start state to any thing whatever in some final state. The empty
  -- path counts
  abbrev pub LeavesIn : (𝓢 : Structure) → 𝓢.Thing → Type 0
  LeavesIn 𝓢 x = (t : State) × (t ∈ 𝓒.finals) × (y : 𝓢.Thing) × PathIn 𝓒 𝓢 x 𝓒.counts.start y t

  -- an individual is yes when such a path leaves it in the canonical model
  abbrev pub Leaves : Individual → Type 0
  Leaves a = LeavesIn (canonical 𝓒) (root a)

  -- some path from it in the model spells a word of the question
  abbrev pub SpellsFrom : Individual → Type 0
  SpellsFrom a =
      (w : List Letter) × Word 𝓒 w × (x : Element 𝓒) × Spells (canonical 𝓒) (root a) w x
