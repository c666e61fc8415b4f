-- The list of a closed sheet (docs/RULES.md, section 12): every mark once, with the round in which
-- it first stands, in one order; for any rules' kind.
use Rattle.std.specs.Prelude.{◌≡◌, ◌↔◌, ◌≤◌, ◌<◌, ℕ, suc, List, [], ◌∷◌, ◌++◌, map, max, drop, length, slice_index_or}
use Rattle.std.specs.List.Sorted.{IsStrictlySortedBy}
use Rattle.std.specs.Ordering.{nat_cmp}
use Rattle.std.specs.declared.cmp.Ordering.{Ordering}
use Rattle.std.specs.Cmp.Lexicographic.{slice_cmp}
use Rattle.laws.specs.Member.{◌∈◌}
use Rattle.theory.specs.Kind.{Kind}
use Rattle.theory.specs.Sheet.{Mark}

-- a rules' kind with the numbers of its states and concepts, by which marks are put in order
pub record Numbered : Type 1 where
  pub kind : Kind
  pub state_number : kind.State → ℕ
  pub concept_number : kind.Concept → ℕ

-- how many marks each round after round 0 adds, where each round's are a list of their own
abbrev pub counts_of : {A : Type 0} → List (List A) → List ℕ
counts_of rounds = map length (drop 1 rounds)

module _ (𝓝 : Numbered) where
  open 𝓝 use {kind, state_number, concept_number}

  -- (s, t, B) stands after n rounds, and after no fewer
  pub record FirstIn (n : ℕ) (s t : kind.State) (B : kind.Concept) : Type 0 where
    pub stands : Mark kind n s t B
    pub no_sooner : (m : ℕ) → m < n → Mark kind m s t B → ⊥

  -- marks go by s, then by t, then by B
  abbrev pub mark_numbers : kind.State × kind.State × kind.Concept → List ℕ
  mark_numbers (s, t, B) = state_number s ∷ state_number t ∷ concept_number B ∷ []

  abbrev pub mark_order
      : kind.State × kind.State × kind.Concept → kind.State × kind.State × kind.Concept → Ordering
  mark_order x y = slice_cmp nat_cmp (mark_numbers x) (mark_numbers y)

  -- the marks that first stand in round n, in this order
  pub record FirstMarks (n : ℕ) (marks : List (kind.State × kind.State × kind.Concept)) : Type 0
    where
      pub sorted : IsStrictlySortedBy mark_order marks
      pub are : (s t : kind.State) (B : kind.Concept) → ((s, t, B) ∈ marks) ↔ FirstIn n s t B

  -- those of rounds 0 to n, each round's as a list of its own
  pub record MarksByRound (n : ℕ) (rounds : List (List (kind.State × kind.State × kind.Concept)))
      : Type 0 where
    pub long : length rounds ≡ suc n
    pub each : (k : ℕ) → k ≤ n → FirstMarks k (slice_index_or rounds k [])

  -- an entry of a list: a round, and a mark
  abbrev pub Entry : Type 0
  Entry = ℕ × kind.State × kind.State × kind.Concept

  -- entries go by the round first
  abbrev pub entry_numbers : Entry → List ℕ
  entry_numbers (n, s, t, B) = n ∷ mark_numbers (s, t, B)

  abbrev pub entry_order : Entry → Entry → Ordering
  entry_order x y = slice_cmp nat_cmp (entry_numbers x) (entry_numbers y)

  -- the list of the closed sheet: every mark of every round once, with the round in which it first
  -- stands, in this order
  pub record Listing (list : List Entry) : Type 0 where
    pub sorted : IsStrictlySortedBy entry_order list
    pub are : (n : ℕ) (s t : kind.State) (B : kind.Concept)
        → ((n, s, t, B) ∈ list) ↔ FirstIn n s t B

  -- an entry has the mark, with some round
  abbrev pub Lists : List Entry → kind.State → kind.State → kind.Concept → Type 0
  Lists list s t B = (n : ℕ) × ((n, s, t, B) ∈ list)

  -- an entry has it with a round up to n
  abbrev pub ListsUpTo : List Entry → ℕ → kind.State → kind.State → kind.Concept → Type 0
  ListsUpTo list n s t B = (m : ℕ) × (m ≤ n) × ((m, s, t, B) ∈ list)

  -- the last round of an entry, and 0 where there is none
  abbrev pub last_round : List Entry → ℕ
  last_round [] = 0
  last_round (entry ∷ list) = max entry.0 (last_round list)

  -- the marks of some rounds in a row, of which the first is round n, as entries
  abbrev pub entries_from
      : ℕ → List (List (kind.State × kind.State × kind.Concept)) → List Entry
  entries_from n [] = []
  entries_from n (marks ∷ rounds) =
      map (λ x. (n, x.0, x.1, x.2)) marks ++ entries_from (suc n) rounds

  -- and of rounds 0, 1, ..
  abbrev pub entries_of : List (List (kind.State × kind.State × kind.Concept)) → List Entry
  entries_of = entries_from 0
