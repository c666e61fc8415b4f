-- A row of asks, and their answers in order.
use Rattle.std.specs.Prelude.{◌≡◌, Some, IfSome, List, ℕ, suc, ◌/◌, ◌≤◌, ◌<◌, length, slice_get}
use Rattle.kinds.specs.declared.Counts.{Counts}
use Rattle.kinds.specs.declared.Answer.{Answer}
use Rattle.kinds.specs.declared.Ask.{Ask}
use Rattle.meaning.specs.Outcome.{Outcome}
use Rattle.index.specs.Preparation.{Preparation}
use Rattle.kinds.specs.Asks.{AskDeclared}
use Rattle.tables.specs.Asks.{ask_width, read_ask}
use Rattle.index.specs.Asked.{asked, IsAnswer}

-- the whole asks in a row of numbers
abbrev pub ask_count : List ℕ → ℕ
ask_count t = length t / ask_width

-- entry k is the answer to ask k, wherever there are both
abbrev pub AnswersEach : Preparation → List ℕ → List Answer → Type 0
AnswersEach p t answers =
    (k : ℕ) → k < ask_count t → IfSome (slice_get answers k) (IsAnswer p (read_ask t k))

-- the entries from one on and below another that have an ask are its answers, and all others are
-- as they were
pub record AnswersBetween (p : Preparation) (t : List ℕ) (from to : ℕ)
    (old new : List Answer) : Type 0 where
  pub answered : (k : ℕ) → from ≤ k → k < to → k < ask_count t
      → IfSome (slice_get new k) (IsAnswer p (read_ask t k))
  pub before : (k : ℕ) → k < from → slice_get new k ≡ slice_get old k
  pub after : (k : ℕ) → to ≤ k → slice_get new k ≡ slice_get old k
  pub rest : (k : ℕ) → ask_count t ≤ k → slice_get new k ≡ slice_get old k

-- the answer stands at entry k
abbrev pub StandsAt : List Answer → ℕ → Answer → Type 0
StandsAt answers k r = slice_get answers k ≡ Some r

-- each entry that has an ask is r
abbrev pub AllAlike : List ℕ → Answer → List Answer → Type 0
AllAlike t r answers = (k : ℕ) → k < ask_count t → IfSome (slice_get answers k) (λ q. q ≡ r)

-- an entry with no ask stays as it was
abbrev pub KeepsRest : List ℕ → List Answer → List Answer → Type 0
KeepsRest t old new = (k : ℕ) → ask_count t ≤ k → slice_get new k ≡ slice_get old k

-- some ask of the first n is declared
pub record SomeDeclared (c : Counts) (t : List ℕ) (n : ℕ) : Type 0 where
  pub at : ℕ
  pub below : at < n
  pub whole : at < ask_count t
  pub declared : AskDeclared c (read_ask t at)

-- the first n of some asks, each asked with the areas as the one before left them: `tells k r` says
-- where answer r to ask k stands
pub data InTurn (p : Preparation) (ask : ℕ → Ask) (tells : ℕ → Answer → Type 0)
    (area spare : List ℕ) : ℕ → List ℕ → List ℕ → Type 0 where
  none : InTurn p ask tells area spare 0 area spare
  next : {n : ℕ} {x y u v : List ℕ} (r : Answer) → InTurn p ask tells area spare n x y → tells n r
      → Outcome (asked p (ask n) x y) r u v → InTurn p ask tells area spare (suc n) u v
