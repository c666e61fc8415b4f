-- Marks by pairs of states: rows of concepts, the pairs that may have a mark, what adds marks and
-- what drops them, and how many there are. The row of a pair of states is row q, a concept is k.
use Rattle.std.specs.Prelude.{◌≡◌, List, ℕ, zero, suc, ◌+◌, ◌*◌, ◌<◌, length, slice_index_or}
use Rattle.kinds.specs.Kinds.{most_states}
use Rattle.laws.specs.Loops.{Witness}
use Rattle.sets.specs.Bits.{Has, members}
use Rattle.sets.specs.Rows.{no_concepts}
use Rattle.sets.specs.Relations.{Relates, pair, At, states_at}
use Rattle.sets.specs.declared.concepts.ConceptSet.{ConceptSet}
use Rattle.sets.specs.declared.states.StateSet.{StateSet}
use Rattle.rules.specs.Rows.{most_concepts}

-- each pair of states that has a mark is among the pairs, and each pair leads to a state with a row
pub record Paired (rows : List ConceptSet) (pairs : List StateSet) : Type 0 where
  pub has : (s t k : ℕ) → s < most_states → t < most_states → At rows (pair s t) k
      → Relates pairs s t
  pub low : (s t : ℕ) → Relates pairs s t → t < most_states

-- each state from which a pair leads is in the set
pub record HasSources (from : ℕ) (pairs : List StateSet) : Type 0 where
  pub has : (s t : ℕ) → Relates pairs s t → Has from s

-- no row has a concept
pub record Blank (rows : List ConceptSet) : Type 0 where
  pub long : length rows ≡ most_states * most_states
  pub none : (q k : ℕ) → At rows q k → ⊥

-- what F says of some number of D; of some state that has a row
abbrev pub By : (ℕ → Type 0) → (ℕ → ℕ → ℕ → Type 0) → ℕ → ℕ → Type 0
By D F q k = Witness D (λ i. F i q k)

abbrev pub ByState : (ℕ → ℕ → ℕ → Type 0) → ℕ → ℕ → Type 0
ByState = By (λ s. s < most_states)

-- what F says of some state to which s may have a mark
abbrev pub ByPair : List StateSet → ℕ → (ℕ → ℕ → ℕ → Type 0) → ℕ → ℕ → Type 0
ByPair pairs s = By (Has (states_at pairs s))

-- a row, put into row i
pub record Put (i row q k : ℕ) : Type 0 where
  pub there : q ≡ i
  pub has : Has row k

-- a row, put into the row of s and t, where t has one
pub record PutTo (row s t q k : ℕ) : Type 0 where
  pub low : t < most_states
  pub there : q ≡ pair s t
  pub has : Has row k

-- the row of s and t, of rows
abbrev pub RowAt : List ConceptSet → ℕ → ℕ → ℕ → ℕ → Type 0
RowAt rows s t = Put (pair s t) (slice_index_or rows (pair s t) no_concepts).0

-- new has no mark but those of old that are in no row with P
pub record Drops (P : ℕ → Type 0) (old new : List ConceptSet) : Type 0 where
  pub long : length new ≡ length old
  pub at : (q k : ℕ) → At new q k → At old q k × (P q → ⊥)

-- q is the row of s and t; of s and a number of D; of a state and one to which it may have a mark
abbrev pub IsPair : ℕ → ℕ → ℕ → Type 0
IsPair s t q = q ≡ pair s t

abbrev pub AnyOf : (ℕ → Type 0) → (ℕ → ℕ → Type 0) → ℕ → Type 0
AnyOf D F q = Witness D (λ i. F i q)

abbrev pub AnyPair : List StateSet → ℕ → Type 0
AnyPair pairs = AnyOf (λ s. s < most_states) (λ s. AnyOf (Has (states_at pairs s)) (IsPair s))

-- how many concepts the rows have: row q, those of s below t, those of the states below s
abbrev pub size : List ConceptSet → ℕ → ℕ
size rows q = length (members most_concepts (slice_index_or rows q no_concepts).0)

unfoldable pub total_from : List ConceptSet → ℕ → ℕ → ℕ
total_from rows s zero = 0
total_from rows s (suc t) = total_from rows s t + size rows (pair s t)

unfoldable pub total : List ConceptSet → ℕ → ℕ
total rows zero = 0
total rows (suc s) = total rows s + total_from rows s most_states
