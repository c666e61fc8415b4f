-- Relations between states as rows of sets: row s is the set of the states to which s leads. And
-- sheets: for each pair of states the set of the concepts at which it is marked.
use Rattle.std.specs.Prelude.{ℕ, List, [], ◌+◌, ◌*◌, slice_index_or}
use Rattle.kinds.specs.Kinds.{most_states}
use Rattle.laws.specs.Loops.{Witness}
use Rattle.sets.specs.Bits.{Has, IsSetOf}
use Rattle.sets.specs.Rows.{no_concepts, no_states}
use Rattle.sets.specs.declared.concepts.ConceptSet.{ConceptSet}
use Rattle.sets.specs.declared.states.StateSet.{StateSet}

-- set k of a list, as a number; relation k of a list
abbrev pub states_at : List StateSet → ℕ → ℕ
states_at sets k = (slice_index_or sets k no_states).0

abbrev pub concepts_at : List ConceptSet → ℕ → ℕ
concepts_at sets k = (slice_index_or sets k no_concepts).0

abbrev pub relation_at : List (List StateSet) → ℕ → List StateSet
relation_at relations k = slice_index_or relations k []

-- a relation leads from s to t
abbrev pub Relates : List StateSet → ℕ → ℕ → Type 0
Relates relation s t = Has (slice_index_or relation s no_states).0 t

-- the same relation, from its other end
abbrev pub Transposed : (ℕ → ℕ → Type 0) → ℕ → ℕ → Type 0
Transposed L s t = L t s

-- some state of m leads to t; r has all such states
abbrev pub LedFrom : (ℕ → ℕ → Type 0) → ℕ → ℕ → Type 0
LedFrom L m t = Witness (Has m) (λ s. L s t)

abbrev pub IsImage : (ℕ → ℕ → Type 0) → ℕ → ℕ → Type 0
IsImage L m = IsSetOf (LedFrom L m)

-- where a sheet keeps the concepts of a pair of states; the concept numbered k is marked there
abbrev pub pair : ℕ → ℕ → ℕ
pair s t = most_states * s + t

abbrev pub At : List ConceptSet → ℕ → ℕ → Type 0
At sheet q k = Has (slice_index_or sheet q no_concepts).0 k
