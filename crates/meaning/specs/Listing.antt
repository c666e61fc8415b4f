-- The list of a collection's closed sheet (docs/RULES.md, section 12): by the numbers of its states
-- and basic concepts; and when an ask is yes by a list.
use Rattle.std.specs.Prelude.{List, ℕ}
use Rattle.kinds.specs.declared.Individual.{Individual}
use Rattle.kinds.specs.declared.State.{State}
use Rattle.kinds.specs.declared.Concept.{Concept}
use Rattle.kinds.specs.declared.Ask.{Ask}
use Rattle.kinds.specs.declared.Ask.TheVariants.{Pair, From}
use Rattle.kinds.specs.Kinds.{number_of}
use Rattle.laws.specs.Member.{◌∈◌}
use Rattle.theory.specs.Run.{Run}
use Rattle.theory.specs.Listing.{Numbered}
use Rattle.theory.specs.Listed.{ListStride, ListsOut}
use Rattle.meaning.specs.Collection.{Collection}
use Rattle.meaning.specs.Model.{individuals}
use Rattle.meaning.specs.Lite.{lite}
use Rattle.meaning.specs.Walk.{Near}

abbrev pub numbered_lite : Collection → Numbered
numbered_lite 𝓒 = record {
  kind = lite 𝓒;
  state_number = λ s. s.0;
  concept_number = number_of;
}

module _ (𝓒 : Collection) (list : List (ℕ × State × State × Concept)) where
  -- the individuals' walk by a list: by fact edges, and from s to t at a when a has some B and an
  -- entry has (s, t, B)
  abbrev pub ListWalk : Individual → State → Individual → State → Type 0
  ListWalk =
      Run (ListStride (numbered_lite 𝓒) list (individuals 𝓒).has (Near 𝓒 (individuals 𝓒)))

  -- it leads out
  abbrev pub ListWalkOut : Individual → State → Type 0
  ListWalkOut =
      ListsOut (numbered_lite 𝓒) list (individuals 𝓒).has (Near 𝓒 (individuals 𝓒))
      (λ t. t ∈ 𝓒.finals)

  -- an ask is yes by a list: the walk leads from the first of a pair, in the start state, to the
  -- second in some final state, or it leads out from the one who is asked
  abbrev pub IsYesBy : Ask → Type 0
  IsYesBy (Pair a b) = (t : State) × (t ∈ 𝓒.finals) × ListWalk a 𝓒.counts.start b t
  IsYesBy (From a) = ListWalkOut a 𝓒.counts.start
