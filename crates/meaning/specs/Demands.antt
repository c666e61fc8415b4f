-- What is demanded of a call (docs/RULES.md, section 9), in words about its outcome.
use Rattle.std.specs.Prelude.{◌≡◌, ◌↔◌, ◌⊎◌, ℕ, ◌+◌, ◌*◌, ◌-◌, ◌≤◌}
use Rattle.kinds.specs.declared.Answer.{Answer}
use Rattle.kinds.specs.declared.Counts.{Counts}
use Rattle.kinds.specs.Answer.{answer_number}
use Rattle.laws.specs.Member.{Within}
use Rattle.meaning.specs.Collection.{Collection}
use Rattle.meaning.specs.Asks.{IsSpelled}
use Rattle.meaning.specs.Lent.{Call, collection_of}
use Rattle.meaning.specs.Outcome.{Breaks, RoundsNeeded}

-- concepts × states × (states − 1) rounds, which always suffice
abbrev pub most_rounds : Counts → ℕ
most_rounds c = (c.names + 2 * c.roles) * c.states * (c.states - 1)

-- the rounds needed are allowed
abbrev pub Enough : Call → Type 0
Enough c = (n : ℕ) × RoundsNeeded c n × (n ≤ c.allowance)

-- a path in the model, as it is asked for, spells a word of the question
abbrev pub Spelled : Call → Type 0
Spelled c = IsSpelled (collection_of c) c.ask

-- the number that answers a call: contradiction exactly when the model breaks an exclusion, and
-- otherwise yes exactly when the path is there that is asked for
pub record NumberSays (c : Call) (Path : Type 0) (number : ℕ) : Type 0 where
  pub contradiction : (number ≡ 2) ↔ Breaks c
  pub yes : (Breaks c → ⊥) → (number ≡ 1) ↔ Path
  pub no : (Breaks c → ⊥) → (number ≡ 0) ↔ (Path → ⊥)

abbrev pub AsModelSays : Call → Answer → Type 0
AsModelSays c r = NumberSays c (Spelled c) (answer_number r)

-- a larger collection: the same start state, and every record of the first
pub record Larger (𝓒 𝓓 : Collection) : Type 0 where
  pub start : 𝓒.counts.start ≡ 𝓓.counts.start
  pub concept-rules : Within 𝓒.concept-rules 𝓓.concept-rules
  pub concept-exclusions : Within 𝓒.concept-exclusions 𝓓.concept-exclusions
  pub role-rules : Within 𝓒.role-rules 𝓓.role-rules
  pub role-exclusions : Within 𝓒.role-exclusions 𝓓.role-exclusions
  pub concept-facts : Within 𝓒.concept-facts 𝓓.concept-facts
  pub role-facts : Within 𝓒.role-facts 𝓓.role-facts
  pub steps : Within 𝓒.steps 𝓓.steps
  pub finals : Within 𝓒.finals 𝓓.finals

-- a second call asks the same of a larger collection
pub record GrowsTo (c d : Call) : Type 0 where
  pub larger : Larger (collection_of c) (collection_of d)
  pub ask : c.ask ≡ d.ask

-- the number that answers the second call keeps a yes or turns it into contradiction, keeps a
-- contradiction, and where it is no the first was no
pub record NumberGrown (first second : ℕ) : Type 0 where
  pub yes-kept : first ≡ 1 → (second ≡ 1) ⊎ (second ≡ 2)
  pub contradiction-kept : first ≡ 2 → second ≡ 2
  pub no-before : second ≡ 0 → first ≡ 0

abbrev pub Grown : Answer → Answer → Type 0
Grown r q = NumberGrown (answer_number r) (answer_number q)

-- the same call with another allowance
abbrev pub allowed : Call → ℕ → Call
allowed c n = record c { allowance = n }
