-- Laws of how many marks the rounds of a collection make, and of how many stand in the area.
use Rattle.std.specs.Prelude.{◌≡◌, List, ℕ, ◌+◌, ◌*◌, ◌≤◌, ◌<◌, length, sum}
use Rattle.kinds.specs.declared.Counts.{Counts}
use Rattle.laws.specs.Once.{AtMostOne}
use Rattle.meaning.specs.Collection.{Collection, WellFormed}
use Rattle.theory.specs.Sheet.{Needed}
use Rattle.theory.specs.Marks.{Stands, Adds, RoundCounts}
use Rattle.theory.specs.LawsOfMarks.{Countable}
use Rattle.meaning.specs.Lite.{lite}
use Rattle.meaning.specs.Layout.{Lays, Standing}
use Rattle.meaning.specs.Demands.{most_rounds}
use Rattle.meaning.specs.LawsOfSheet.{Marked}

-- the marks of round 0: states × concepts
abbrev pub first_marks : Counts → ℕ
first_marks c = c.states * (c.names + 2 * c.roles)

-- a collection's sheet is countable,
abbrev pub CollectionCountable : Type 0
CollectionCountable = (𝓒 : Collection) → WellFormed 𝓒 → Countable (lite 𝓒)

-- so each round has its count,
abbrev pub CollectionCounts : Type 0
CollectionCounts = (𝓒 : Collection) → WellFormed 𝓒 → (n : ℕ)
    → (counts : List ℕ) × RoundCounts (lite 𝓒) n counts

-- and these counts and states × concepts make the number of marks standing in the sheet,
abbrev pub CollectionStands : Type 0
CollectionStands = (𝓒 : Collection) → WellFormed 𝓒
    → (n : ℕ) (counts : List ℕ) (m : ℕ)
    → RoundCounts (lite 𝓒) n counts → Stands (lite 𝓒) n m → m ≡ sum counts + first_marks 𝓒.counts

-- and in an area that holds it, where one number stands
abbrev pub AreaStands : Type 0
AreaStands = (𝓒 : Collection) → WellFormed 𝓒 → (n : ℕ) (counts area : List ℕ)
    → RoundCounts (lite 𝓒) n counts → Lays (Marked 𝓒 n) area
    → Standing area (sum counts + first_marks 𝓒.counts)

abbrev pub StandingOnce : Type 0
StandingOnce = (area : List ℕ) → AtMostOne (Standing area)

-- a round up to the rounds needed adds a mark or more, and no round more than concepts × states ×
-- (states − 1)
abbrev pub CollectionAddsSome : Type 0
CollectionAddsSome = (𝓒 : Collection) → WellFormed 𝓒 → (n : ℕ) → Needed (lite 𝓒) n
    → (k : ℕ) → k < n → (m : ℕ) → Adds (lite 𝓒) k m → 1 ≤ m

abbrev pub CollectionAddsFew : Type 0
CollectionAddsFew = (𝓒 : Collection) → WellFormed 𝓒 → (n m : ℕ) → Adds (lite 𝓒) n m
    → m ≤ most_rounds 𝓒.counts

-- up to the rounds needed there are no more counts than that
abbrev pub CollectionCountsAtMost : Type 0
CollectionCountsAtMost = (𝓒 : Collection) → WellFormed 𝓒
    → (n : ℕ) → Needed (lite 𝓒) n → (k : ℕ) → k ≤ n
    → (counts : List ℕ) → RoundCounts (lite 𝓒) k counts → length counts ≤ most_rounds 𝓒.counts
