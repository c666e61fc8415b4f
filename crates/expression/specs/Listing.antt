-- How the tables are listed from what a reader knows of the states.
use Rattle.std.specs.Prelude.{Bool, List, [], ◌∷◌, ◌++◌, ℕ, zero, suc, ◌*◌, ◌/◌, ◌%◌, slice_index_or}
use Rattle.kinds.specs.declared.State.{State}
use Rattle.kinds.specs.Kinds.{most_states, state}
use Rattle.laws.specs.Search.{pick}
use Rattle.meaning.specs.Collection.{Step, step}
use Rattle.sets.specs.Bits.{has}
use Rattle.sets.specs.Rows.{state_marks}
use Rattle.sets.specs.declared.states.StateSet.{StateSet}
use Rattle.expression.specs.Marks.{mark_letter}

-- a place for each two states, those from one state together: so many are from the first n states
abbrev pub places_from : ℕ → ℕ
places_from n = most_states * n

abbrev pub places : ℕ
places = places_from most_states

-- the step at a place: from the state p / most_states into the state p % most_states
abbrev pub step_of : List ℕ → ℕ → Step
step_of letters p =
    step (state (p / most_states)) (mark_letter (slice_index_or letters (p % most_states) 0))
    (state (p % most_states))

-- what x gives for each number below one that passes a test
unfoldable pub listed_below : {A : Type 0} → (ℕ → Bool) → (ℕ → A) → ℕ → List A
listed_below passes x zero = []
listed_below passes x (suc k) = listed_below passes x k ++ pick (passes k) (x k ∷ []) []

-- the steps at the places below one
abbrev pub steps_below : List StateSet → List ℕ → ℕ → List Step
steps_below rows letters =
    listed_below (λ p. state_marks rows (p / most_states) (p % most_states)) (step_of letters)

-- the states below one that are in a set
abbrev pub finals_below : StateSet → ℕ → List State
finals_below set = listed_below (has set.0) state
