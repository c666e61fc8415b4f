-- Walks over roots by a list of marks in place of loops (docs/RULES.md, section 12), for any rules'
-- kind with numbers.
use Rattle.std.specs.Prelude.{List, ◌⊎◌}
use Rattle.theory.specs.Run.{Run}
use Rattle.theory.specs.Listing.{Numbered, Entry, Lists}
use Rattle.theory.specs.Onward.{Onward}

module _ (𝓝 : Numbered) (list : List (Entry 𝓝)) where
  open 𝓝 use {kind}

  module _ {I : Type 0} (has : I → kind.Concept → Type 0)
      (near : I → kind.State → I → kind.State → Type 0) where
    -- along an edge, or from s to t at a when a has some B and an entry has (s, t, B)
    pub data ListStride : I → kind.State → I → kind.State → Type 0 where
      along : {a b : I} {s t : kind.State} → near a s b t → ListStride a s b t
      by : {a : I} {s t : kind.State} (B : kind.Concept) → has a B → Lists 𝓝 list s t B
          → ListStride a s a t

    -- the walk leads to a final state, or to one from which the way leads on in the tree below the
    -- root, by loops of which the list has the marks
    pub record ListsOut (final : kind.State → Type 0) (a : I) (s : kind.State) : Type 0 where
      pub to : I
      pub last : kind.State
      pub walk : Run ListStride a s to last
      pub out : final last
          ⊎ ((B : kind.Concept) × has to B × Onward kind (Lists 𝓝 list) final last B)
