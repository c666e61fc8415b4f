-- Transitions transposed, for walks backward; and all states to which transitions lead.
use Rattle.std.specs.Prelude.{ℕ, List, ◌≡◌, ◌↔◌, ◌<◌, length}
use Rattle.kinds.specs.Kinds.{most_states, flip}
use Rattle.sets.specs.Bits.{Has, role_width}
use Rattle.sets.specs.Relations.{states_at, relation_at, Relates}
use Rattle.sets.specs.declared.states.StateSet.{StateSet}

-- m has all states to which the transitions of R lead
abbrev pub EndsWithin : List (List StateSet) → ℕ → ℕ → Type 0
EndsWithin transitions R m = (s t : ℕ) → Relates (relation_at transitions R) s t → Has m t

pub record AreEnds (transitions : List (List StateSet)) (ends : List StateSet) : Type 0 where
  pub at : (R : ℕ) → R < role_width → EndsWithin transitions R (states_at ends R)

-- r relates t to s for each pair that the relation relates from s to t
pub record IsTransposed (relation r : List StateSet) : Type 0 where
  pub long : length r ≡ most_states
  pub at : (s t : ℕ) → s < most_states → Relates r s t ↔ Relates relation t s

-- against a role lead the transitions of its inverse, transposed
pub record AreTransposed (transitions r : List (List StateSet)) : Type 0 where
  pub at : (R : ℕ) → R < role_width
      → IsTransposed (relation_at transitions (flip R)) (relation_at r R)
