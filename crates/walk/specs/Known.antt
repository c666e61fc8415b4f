-- What is known of individuals, by the components that were told.
use Rattle.std.specs.Prelude.{◌≡◌, ◌≢◌, ◌⊎◌, List, [], ℕ, ◌<◌, length, slice_index, slice_index_or}
use Rattle.kinds.specs.declared.Individual.{Individual}
use Rattle.kinds.specs.declared.State.{State}
use Rattle.kinds.specs.Kinds.{most_individuals}
use Rattle.sets.specs.declared.states.StateSet.{StateSet}
use Rattle.walk.specs.declared.components.Component.{Component}
use Rattle.walk.specs.declared.known.Known.{Known}
use Rattle.walk.specs.declared.strides.Strides.{Strides}
use Rattle.walk.specs.Telling.{IsMember}
use Rattle.walk.specs.Walks.{WalkedBy}

-- the most components that are kept
abbrev pub most_kept : ℕ
most_kept = 16

-- the place of an individual's component; the individual is known where one is kept there
abbrev pub place_in : Known → ℕ → ℕ
place_in k f = slice_index k.places f

abbrev pub IsKnown : Known → ℕ → Type 0
IsKnown k f = place_in k f < most_kept

-- what the members of the component in a place reach
abbrev pub kept_at : Known → ℕ → List StateSet
kept_at k p = slice_index_or k.sets p []

-- each individual that is known reaches the nodes that are kept for it, and no others
pub record AreKnown (s : Strides) (start : State) (k : Known) : Type 0 where
  pub long : length k.places ≡ most_individuals
  pub many : length k.sets ≡ most_kept
  pub below : (f : ℕ) → f < most_individuals → IsKnown k f → place_in k f < k.count
  pub at : (f : Individual) → f.0 < most_individuals → IsKnown k f.0
      → WalkedBy s f start (kept_at k (place_in k f.0))

-- the individual f may get the place k, where it is a member of the component; nothing else changes
pub record PutsMember (c : Component) (f k : ℕ) (old new : Known) : Type 0 where
  pub long : length new.places ≡ length old.places
  pub count : new.count ≡ old.count
  pub sets : new.sets ≡ old.sets
  pub others : (g : ℕ) → g ≢ f → place_in new g ≡ place_in old g
  pub own : (place_in new f ≡ place_in old f) ⊎ ((place_in new f ≡ k) × IsMember c f)
