-- Where a mark stands in an area (docs/RULES.md, section 6): a place for each state, state and
-- concept, one bit to a place. Each notion is said of an area for so many states, and today's are
-- those of the most states.
-- The sheet itself knows nothing of it.
use Rattle.std.specs.Prelude.{◌≡◌, ◌↔◌, List, ℕ, ◌+◌, ◌*◌, ◌/◌, ◌%◌, ◌^◌, ◌<◌, length, slice_index, replicate}
use Rattle.std.specs.Int.{bit_at}
use Rattle.kinds.specs.declared.State.{State}
use Rattle.kinds.specs.declared.Concept.{Concept}
use Rattle.kinds.specs.Kinds.{most_states, most_roles, base, number_of}
use Rattle.laws.specs.Member.{◌∈◌}
use Rattle.laws.specs.Select.{Rising}

-- the numbers that basic concepts may have: 128
abbrev pub concept_numbers : ℕ
concept_numbers = base + 2 * most_roles

-- the place of the mark (s, t, B): with 32 states s × 4,096 + t × 128 + B
abbrev pub place_by : ℕ → State → State → Concept → ℕ
place_by n s t B = s.0 * (n * concept_numbers) + t.0 * concept_numbers + number_of B

abbrev pub place : State → State → Concept → ℕ
place = place_by most_states

-- so many places there are: 131,072
abbrev pub place_count_by : ℕ → ℕ
place_count_by n = n * (n * concept_numbers)

abbrev pub place_count : ℕ
place_count = place_count_by most_states

abbrev pub byte_bits : ℕ
byte_bits = 8

-- the bytes of an area: 16,384
abbrev pub area_length_by : ℕ → ℕ
area_length_by n = place_count_by n / byte_bits

abbrev pub area_length : ℕ
area_length = area_length_by most_states

-- what stands at place p of an area: bit p mod 8, counted from the least, of byte p div 8
abbrev pub bit_in : List ℕ → ℕ → ℕ
bit_in area p = bit_at (slice_index area (p / byte_bits)) (p % byte_bits)

-- an area has 1 at each place of P, and 0 at every other
pub record PacksBy (n : ℕ) (P : ℕ → Type 0) (area : List ℕ) : Type 0 where
  pub long : length area ≡ area_length_by n
  pub bytes : (i : ℕ) → slice_index area i < 2 ^ byte_bits
  pub marks : (p : ℕ) → (bit_in area p ≡ 1) ↔ P p

abbrev pub Packs : (ℕ → Type 0) → List ℕ → Type 0
Packs = PacksBy most_states

-- p is the place of a mark of the sheet f
abbrev pub IsPlaceBy : ℕ → (State → State → Concept → Type 0) → ℕ → Type 0
IsPlaceBy n f p = (s t : State) × (B : Concept) × f s t B × (place_by n s t B ≡ p)

abbrev pub IsPlaceOf : (State → State → Concept → Type 0) → ℕ → Type 0
IsPlaceOf = IsPlaceBy most_states

-- the area holds the sheet f: 1 at the place of each mark, and 0 at every other place
abbrev pub LaysBy : ℕ → (State → State → Concept → Type 0) → List ℕ → Type 0
LaysBy n f = PacksBy n (IsPlaceBy n f)

abbrev pub Lays : (State → State → Concept → Type 0) → List ℕ → Type 0
Lays = LaysBy most_states

abbrev pub zeros : List ℕ
zeros = replicate area_length 0

-- the places of an area that hold 1, each once
pub record Ones (area places : List ℕ) : Type 0 where
  pub rising : Rising places
  pub ones : (p : ℕ) → (bit_in area p ≡ 1) ↔ (p ∈ places)

-- m marks stand in an area
abbrev pub Standing : List ℕ → ℕ → Type 0
Standing area m = (places : List ℕ) × Ones area places × (length places ≡ m)
