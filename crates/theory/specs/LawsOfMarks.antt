-- Laws of how many marks rounds make, for any rules' kind.
use Rattle.std.specs.Prelude.{◌≡◌, List, ℕ, ◌+◌, ◌*◌, ◌-◌, ◌≤◌, ◌<◌, length, sum}
use Rattle.laws.specs.Distinct.{Distinct}
use Rattle.laws.specs.Once.{AtMostOne}
use Rattle.theory.specs.Kind.{Kind, Sane}
use Rattle.theory.specs.Tests.{Tests, AreTestsOf}
use Rattle.theory.specs.Sheet.{Needed}
use Rattle.theory.specs.Marks.{Stands, Adds, RoundCounts}

module _ (𝓚 : Kind) where
  -- tests decide the rules, and each state and concept is listed once
  pub record Countable : Type 0 where
    pub tests : Tests 𝓚
    pub decide : AreTestsOf 𝓚 tests
    pub sane : Sane 𝓚
    pub states-once : Distinct 𝓚.states
    pub concepts-once : Distinct 𝓚.concepts

  -- concepts × states × (states − 1)
  abbrev pub most : ℕ
  most = length 𝓚.concepts * length 𝓚.states * (length 𝓚.states - 1)

  -- the sheet after n rounds has one number of marks, the round after them adds one number, and so
  -- the counts of rounds 1 to n are one row
  abbrev pub StandsOnce : Type 0
  StandsOnce = (n : ℕ) → AtMostOne (Stands 𝓚 n)

  abbrev pub AddsOnce : Type 0
  AddsOnce = (n : ℕ) → AtMostOne (Adds 𝓚 n)

  abbrev pub CountsOnce : Type 0
  CountsOnce = (n : ℕ) → AtMostOne (RoundCounts 𝓚 n)

  -- there are such numbers
  abbrev pub StandsThere : Type 0
  StandsThere = Countable → (n : ℕ) → (m : ℕ) × Stands 𝓚 n m

  abbrev pub CountsThere : Type 0
  CountsThere = Countable → (n : ℕ) → (counts : List ℕ) × RoundCounts 𝓚 n counts

  -- what the rounds added and states × concepts make the number of marks standing in the sheet
  abbrev pub CountsMakeSheet : Type 0
  CountsMakeSheet = Countable → (n : ℕ) (counts : List ℕ) (m : ℕ)
      → RoundCounts 𝓚 n counts → Stands 𝓚 n m
      → m ≡ sum counts + length 𝓚.states * length 𝓚.concepts

  -- a round up to the rounds needed adds a mark or more, every later one none
  abbrev pub AddsSome : Type 0
  AddsSome = Countable → (n : ℕ) → Needed 𝓚 n → (k : ℕ) → k < n
      → (m : ℕ) → Adds 𝓚 k m → 1 ≤ m

  abbrev pub AddsNone : Type 0
  AddsNone = (n : ℕ) → Needed 𝓚 n → (k : ℕ) → n ≤ k → (m : ℕ) → Adds 𝓚 k m → m ≡ 0

  -- all rounds together add no more than concepts × states × (states − 1) marks
  abbrev pub SumAtMost : Type 0
  SumAtMost = Countable → (n : ℕ) (counts : List ℕ) → RoundCounts 𝓚 n counts
      → sum counts ≤ most

  -- so no round adds more than that,
  abbrev pub AddsAtMost : Type 0
  AddsAtMost = Countable → (n m : ℕ) → Adds 𝓚 n m → m ≤ most

  -- and up to the rounds needed there are no more counts than that
  abbrev pub CountsAtMost : Type 0
  CountsAtMost = Countable → (n : ℕ) → Needed 𝓚 n → (k : ℕ) → k ≤ n
      → (counts : List ℕ) → RoundCounts 𝓚 k counts → length counts ≤ most
