-- The marks of rows as a list: rising by the first state, then the second, then the concept.
use Rattle.std.specs.Prelude.{ℕ, List, map}
use Rattle.std.specs.List.{range_with_len, flat_map}
use Rattle.kinds.specs.Kinds.{most_states, state, concept_of}
use Rattle.kinds.specs.declared.State.{State}
use Rattle.kinds.specs.declared.Concept.{Concept}
use Rattle.sets.specs.Bits.{members}
use Rattle.sets.specs.Relations.{pair, concepts_at}
use Rattle.sets.specs.declared.concepts.ConceptSet.{ConceptSet}
use Rattle.rules.specs.Rows.{most_concepts}

-- a mark, by the numbers of its states and its concept
abbrev pub mark_of : ℕ × ℕ × ℕ → State × State × Concept
mark_of m = (state m.0, state m.1, concept_of m.2)

-- at s and t, those of each concept of a set; of the row of s and t
abbrev pub marks_at : ℕ → ℕ → ℕ → List (ℕ × ℕ × ℕ)
marks_at s t row = map (λ B. (s, t, B)) (members most_concepts row)

abbrev pub marks_between : List ConceptSet → ℕ → ℕ → List (ℕ × ℕ × ℕ)
marks_between rows s t = marks_at s t (concepts_at rows (pair s t))

-- from s to each state of a list; from each state of a list to those that are given for it
unfoldable pub marks_to : List ConceptSet → ℕ → List ℕ → List (ℕ × ℕ × ℕ)
marks_to rows s to = flat_map (marks_between rows s) to

unfoldable pub marks_from : List ConceptSet → (ℕ → List ℕ) → List ℕ → List (ℕ × ℕ × ℕ)
marks_from rows to from = flat_map (λ s. marks_to rows s (to s)) from

-- from each state to each
abbrev pub all_states : List ℕ
all_states = range_with_len 0 most_states

unfoldable pub marks_in : List ConceptSet → List (ℕ × ℕ × ℕ)
marks_in rows = marks_from rows (λ s. all_states) all_states
