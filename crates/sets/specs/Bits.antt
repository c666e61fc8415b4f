-- A set of small numbers, as the bits of a number: k is in it when bit k is 1.
-- A set stands for a row of a relation in the same way.
use Rattle.std.specs.Prelude.{ℕ, ◌≡◌, ◌≢◌, ◌<◌, ◌≤◌, ◌+◌, ◌-◌, ◌*◌, ◌/◌, ◌%◌, ◌^◌, ◌↔◌, ◌⊎◌, Bool, true, nat_eq, List, length, filter, slice_index, Option, MatchOption}
use Rattle.std.specs.List.{range_with_len}
use Rattle.std.specs.Int.{bit_at}
use Rattle.kinds.specs.Kinds.{base, most_roles, most_states}

-- A set has room for the numbers below its width: for each basic concept, signed role or state.
abbrev pub role_width : ℕ
role_width = 2 * most_roles

abbrev pub concept_width : ℕ
concept_width = base + role_width

abbrev pub state_width : ℕ
state_width = most_states

-- the number k is in the set n, as a test and as a fact
abbrev pub has : ℕ → ℕ → Bool
has n k = nat_eq (bit_at n k) 1

abbrev pub Has : ℕ → ℕ → Type 0
Has n k = bit_at n k ≡ 1

-- the members of r are the numbers with P
pub record IsSetOf (P : ℕ → Type 0) (r : ℕ) : Type 0 where
  pub member : (i : ℕ) → Has r i ↔ P i

-- k alone is in r; where a set of width w has no room for k, nothing is
pub record IsOnly (w k r : ℕ) : Type 0 where
  pub member : (i : ℕ) → Has r i ↔ ((i ≡ k) × (k < w))

-- r has the members of n, and k where a set of width w has room for it
pub record Inserts (w n k r : ℕ) : Type 0 where
  pub member : (i : ℕ) → Has r i ↔ (Has n i ⊎ ((i ≡ k) × (k < w)))

-- the same where on is true, and else r has the members of n
pub record InsertsIf (w n k : ℕ) (on : Bool) (r : ℕ) : Type 0 where
  pub member : (i : ℕ) → Has r i ↔ (Has n i ⊎ ((i ≡ k) × (k < w) × (on ≡ true)))

-- r has the members of n but k
pub record Removes (n k r : ℕ) : Type 0 where
  pub member : (i : ℕ) → Has r i ↔ (Has n i × (i ≢ k))

-- r has the members of m and those of n
pub record IsUnion (m n r : ℕ) : Type 0 where
  pub member : (i : ℕ) → Has r i ↔ (Has m i ⊎ Has n i)

-- r has what is in m and in n
pub record IsIntersection (m n r : ℕ) : Type 0 where
  pub member : (i : ℕ) → Has r i ↔ (Has m i × Has n i)

-- r has the members of m that are not in n
pub record IsMinus (m n r : ℕ) : Type 0 where
  pub member : (i : ℕ) → Has r i ↔ (Has m i × (Has n i → ⊥))

-- r has b + k for each k in n
pub record IsRaised (b n r : ℕ) : Type 0 where
  pub member : (i : ℕ) → Has r i ↔ ((b ≤ i) × Has n (i - b))

-- r has k for each b + k in n
pub record IsLowered (b n r : ℕ) : Type 0 where
  pub member : (i : ℕ) → Has r i ↔ Has n (b + i)

-- r has the members of n that are below b
pub record IsLower (b n r : ℕ) : Type 0 where
  pub member : (i : ℕ) → Has r i ↔ ((i < b) × Has n i)

-- some number is in m and in n
abbrev pub Meets : ℕ → ℕ → Type 0
Meets m n = (i : ℕ) × Has m i × Has n i

-- no number is in n
abbrev pub IsEmpty : ℕ → Type 0
IsEmpty n = (i : ℕ) → Has n i → ⊥

-- k is the least member of n, below w, and r has the others; r is less, which ends a loop
pub record TakesFirst (w n k r : ℕ) : Type 0 where
  pub within : k < w
  pub member : Has n k
  pub least : (i : ℕ) → i < k → Has n i → ⊥
  pub rest : Removes n k r
  pub less : r < n

-- r is the first member of n, below w, and m has the others; or n has none, and m is n
abbrev pub Takes : {A : Type 0} → ℕ → (A → ℕ) → ℕ → Option A → ℕ → Type 0
Takes w number n r m = MatchOption r (IsEmpty n × (m ≡ n)) (λ x. TakesFirst w n (number x) m)

-- the members below w, each once and rising
unfoldable pub members : ℕ → ℕ → List ℕ
members w n = filter (has n) (range_with_len 0 w)

-- the bytes of a set of width w: bit k of n is bit k % 8 of byte k / 8
pub record IsBytesOf (w n : ℕ) (bytes : List ℕ) : Type 0 where
  pub long : length bytes ≡ w / 8
  pub small : (i : ℕ) → slice_index bytes i < 2 ^ 8
  pub bit : (k : ℕ) → k < w → Has (slice_index bytes (k / 8)) (k % 8) ↔ Has n k
