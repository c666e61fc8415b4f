-- Laws of the list of a closed sheet (docs/RULES.md, section 12), for any rules' kind with numbers.
use Rattle.std.specs.Prelude.{◌≡◌, ◌↔◌, ◌⊎◌, List, AllPairs, ℕ, suc, ◌*◌, ◌≤◌, ◌<◌, length, count_by, nat_le, ◌==◌}
use Rattle.laws.specs.Member.{◌∈◌}
use Rattle.laws.specs.Numbers.{numbered}
use Rattle.laws.specs.Once.{AtMostOne}
use Rattle.theory.specs.Sheet.{Mark, Needed}
use Rattle.theory.specs.Marks.{Added, Stands, RoundCounts}
use Rattle.theory.specs.LawsOfMarks.{Countable}
use Rattle.theory.specs.Listing.{Numbered, FirstIn, FirstMarks, MarksByRound}
use Rattle.theory.specs.Listing.{Entry, Listing, Lists, ListsUpTo}
use Rattle.theory.specs.Listing.{counts_of, last_round, entries_of}

module _ (𝓝 : Numbered) where
  open 𝓝 use {kind, state_number, concept_number}

  -- the numbers tell declared states, and valid concepts, apart
  pub record AreToldApart : Type 0 where
    pub states : (s t : kind.State) → s ∈ kind.states → t ∈ kind.states
        → state_number s ≡ state_number t → s ≡ t
    pub concepts : (B C : kind.Concept) → B ∈ kind.concepts → C ∈ kind.concepts
        → concept_number B ≡ concept_number C → B ≡ C

  -- a mark first stands in one round
  abbrev pub FirstInOnce : Type 0
  FirstInOnce = (s t : kind.State) (B : kind.Concept) → AtMostOne (λ n. FirstIn 𝓝 n s t B)

  -- those of round 0 first stand in it, and in each further round those that it adds
  abbrev pub FirstInZero : Type 0
  FirstInZero = (s t : kind.State) (B : kind.Concept) → FirstIn 𝓝 0 s t B ↔ Mark kind 0 s t B

  abbrev pub FirstInNext : Type 0
  FirstInNext = (n : ℕ) (s t : kind.State) (B : kind.Concept)
      → FirstIn 𝓝 (suc n) s t B ↔ Added kind n s t B

  -- the marks that first stand in a round are one list, and so are those of all rounds up to one
  abbrev pub FirstMarksOnce : Type 0
  FirstMarksOnce = (n : ℕ) → AtMostOne (FirstMarks 𝓝 n)

  abbrev pub MarksByRoundOnce : Type 0
  MarksByRoundOnce = (n : ℕ) → AtMostOne (MarksByRound 𝓝 n)

  -- there are such lists
  abbrev pub MarksByRoundThere : Type 0
  MarksByRoundThere = Countable kind → AreToldApart → (n : ℕ)
      → (rounds : List (List (kind.State × kind.State × kind.Concept))) × MarksByRound 𝓝 n rounds

  -- how long they are is how many marks the rounds add
  abbrev pub CountsByRound : Type 0
  CountsByRound = (n : ℕ) (rounds : List (List (kind.State × kind.State × kind.Concept)))
      → MarksByRound 𝓝 n rounds → RoundCounts kind n (counts_of rounds)

  -- up to the rounds needed they are the list of the closed sheet,
  abbrev pub RoundsAreListing : Type 0
  RoundsAreListing = (n : ℕ) (rounds : List (List (kind.State × kind.State × kind.Concept)))
      → Needed kind n → MarksByRound 𝓝 n rounds → Listing 𝓝 (entries_of 𝓝 rounds)

  -- which is there, and is one
  abbrev pub ListingThere : Type 0
  ListingThere = Countable kind → AreToldApart → (list : List (Entry 𝓝)) × Listing 𝓝 list

  abbrev pub ListingOnce : Type 0
  ListingOnce = AtMostOne (Listing 𝓝)

  -- its entries go by the round, then by s, then by t, then by B
  abbrev pub EntryPrecedes : Entry 𝓝 → Entry 𝓝 → Type 0
  EntryPrecedes (m, s, t, B) (n, u, v, C) =
      (m < n) ⊎ ((m ≡ n) × ((state_number s < state_number u)
      ⊎ ((state_number s ≡ state_number u) × ((state_number t < state_number v)
      ⊎ ((state_number t ≡ state_number v) × (concept_number B < concept_number C))))))

  abbrev pub ListingInOrder : Type 0
  ListingInOrder = (list : List (Entry 𝓝)) → Listing 𝓝 list → AllPairs EntryPrecedes list

  -- it has each mark once,
  abbrev pub EntryOnce : Type 0
  EntryOnce = (list : List (Entry 𝓝)) → Listing 𝓝 list
      → (s t : kind.State) (B : kind.Concept) → AtMostOne (λ n. (n, s, t, B) ∈ list)

  -- and no more entries than there are concepts × states × states
  abbrev pub ListingLength : Type 0
  ListingLength = Countable kind → (list : List (Entry 𝓝)) → Listing 𝓝 list
      → length list ≤ length kind.concepts * length kind.states * length kind.states

  -- a mark stands after n rounds exactly when an entry has it with a round up to n,
  abbrev pub ListedAfter : Type 0
  ListedAfter = Countable kind → (list : List (Entry 𝓝)) → Listing 𝓝 list
      → (n : ℕ) (s t : kind.State) (B : kind.Concept)
      → Mark kind n s t B ↔ ListsUpTo 𝓝 list n s t B

  -- and in the closed sheet when an entry has it
  abbrev pub ListedClosed : Type 0
  ListedClosed = Countable kind → (list : List (Entry 𝓝)) → Listing 𝓝 list
      → (n : ℕ) → Needed kind n → (s t : kind.State) (B : kind.Concept)
      → Mark kind n s t B ↔ Lists 𝓝 list s t B

  -- the rounds needed are the last round of an entry
  abbrev pub NeededIsLast : Type 0
  NeededIsLast = Countable kind → (list : List (Entry 𝓝)) → Listing 𝓝 list
      → (n : ℕ) → Needed kind n ↔ (n ≡ last_round 𝓝 list)

  -- each round adds as many marks as entries have it,
  abbrev pub CountsListed : Type 0
  CountsListed = (list : List (Entry 𝓝)) → Listing 𝓝 list
      → (n : ℕ) → RoundCounts kind n (numbered (λ k. count_by (λ x. x.0 == suc k) list) n)

  -- and as many stand after it as entries have a round up to it
  abbrev pub StandsListed : Type 0
  StandsListed = Countable kind → (list : List (Entry 𝓝)) → Listing 𝓝 list
      → (n : ℕ) → Stands kind n (count_by (λ x. nat_le x.0 n) list)
