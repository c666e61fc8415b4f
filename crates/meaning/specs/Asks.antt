-- When an ask is yes (docs/RULES.md, section 5), and the same in words.
use Rattle.kinds.specs.declared.Ask.{Ask}
use Rattle.kinds.specs.declared.Ask.TheVariants.{Pair, From}
use Rattle.meaning.specs.Collection.{Collection}
use Rattle.meaning.specs.Question.{Yes, SpellsWord}
use Rattle.meaning.specs.Leaving.{Leaves, SpellsFrom}

module _ (𝓒 : Collection) where
  -- a pair that is yes, or an individual that a path leaves
  abbrev pub IsYes : Ask → Type 0
  IsYes (Pair a b) = Yes 𝓒 a b
  IsYes (From a) = Leaves 𝓒 a

  -- such a path in the model spells a word of the question
  abbrev pub IsSpelled : Ask → Type 0
  IsSpelled (Pair a b) = SpellsWord 𝓒 a b
  IsSpelled (From a) = SpellsFrom 𝓒 a
