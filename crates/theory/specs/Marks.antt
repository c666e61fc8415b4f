-- How many marks a round makes, and how many stand (docs/RULES.md, section 6): counted over the
-- sheet itself.
use Rattle.std.specs.Prelude.{◌≡◌, ◌↔◌, List, ℕ, suc, ◌<◌, length, slice_index}
use Rattle.laws.specs.Distinct.{Distinct}
use Rattle.laws.specs.Member.{◌∈◌}
use Rattle.theory.specs.Kind.{Kind}
use Rattle.theory.specs.Sheet.{Mark}

module _ (𝓚 : Kind) where
  open 𝓚 use {Concept, State}

  -- round n + 1 adds (s, t, B): it stands after n + 1 rounds, and not after n
  pub record Added (n : ℕ) (s t : State) (B : Concept) : Type 0 where
    pub then : Mark 𝓚 (suc n) s t B
    pub before : Mark 𝓚 n s t B → ⊥

  -- the sheet f has m marks: a list has each of them, and once, and nothing else
  pub record Counted (f : State → State → Concept → Type 0) (m : ℕ) : Type 0 where
    pub marks : List (State × State × Concept)
    pub once : Distinct marks
    pub are : (s t : State) (B : Concept) → ((s, t, B) ∈ marks) ↔ f s t B
    pub many : length marks ≡ m

  -- m marks stand after n rounds
  abbrev pub Stands : ℕ → ℕ → Type 0
  Stands n = Counted (Mark 𝓚 n)

  -- round n + 1 adds m marks
  abbrev pub Adds : ℕ → ℕ → Type 0
  Adds n = Counted (Added n)

  -- how many marks rounds 1 to n added, in order
  pub record RoundCounts (n : ℕ) (counts : List ℕ) : Type 0 where
    pub long : length counts ≡ n
    pub each : (k : ℕ) → k < n → Adds k (slice_index counts k)
