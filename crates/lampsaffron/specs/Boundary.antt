-- What the calls from other languages give: the outcome of asking, each answer as number and count.
use Rattle.std.specs.Prelude.{◌≡◌, List, ℕ, ◌/◌, ◌<◌, Some, IfSome, length, slice_get}
use Rattle.kinds.specs.declared.Answer.{Answer}
use Rattle.kinds.specs.declared.Counts.{Counts}
use Rattle.kinds.specs.declared.Ask.{Ask}
use Rattle.kinds.specs.declared.Ask.TheVariants.{Pair}
use Rattle.kinds.specs.Kinds.{individual, state}
use Rattle.kinds.specs.Answer.{answer_number, answer_count}
use Rattle.meaning.specs.Lent.{Tables, Call, Whole, field}
use Rattle.meaning.specs.Outcome.{Outcome}
use Rattle.index.specs.Preparation.{Preparation, made_of}

-- the five counts, as they are passed
abbrev pub counted : ℕ → ℕ → ℕ → ℕ → ℕ → Counts
counted n r i s t = record { names = n; roles = r; individuals = i; states = s; start = state t }

-- the eight tables, as they are passed
abbrev pub lent : List ℕ → List ℕ → List ℕ → List ℕ → List ℕ → List ℕ → List ℕ → List ℕ → Tables
lent cr ce rr re cf rf st fi = record {
  concept-rules = cr;
  concept-exclusions = ce;
  role-rules = rr;
  role-exclusions = re;
  concept-facts = cf;
  role-facts = rf;
  steps = st;
  finals = fi;
}

-- all that is passed but what is asked, and of the areas their lengths alone
abbrev pub passed : (names roles individuals states start : ℕ)
    → (concept-rules concept-exclusions role-rules role-exclusions : List ℕ)
    → (concept-facts role-facts steps finals : List ℕ)
    → (allowance area spare : ℕ) → Preparation
passed n r i s t cr ce rr re cf rf st fi =
    made_of (counted n r i s t) (lent cr ce rr re cf rf st fi)

-- the same with other tables
abbrev pub passed_with : Preparation → Tables → Preparation
passed_with p t = record p { tables = t }

-- the outcome of a call, its answer as number and count
pub record Gives (c : Call) (number count : ℕ) (x y : List ℕ) : Type 0 where
  pub answer : Answer
  pub outcome : Outcome c answer x y
  pub number_is : number ≡ answer_number answer
  pub count_is : count ≡ answer_count answer

-- a row of pairs, two numbers to each: how many there are, and pair k as an ask
abbrev pub pair_width : ℕ
pair_width = 2

abbrev pub pair_count : List ℕ → ℕ
pair_count pairs = length pairs / pair_width

abbrev pub pair_at : List ℕ → ℕ → Ask
pair_at pairs k =
    Pair (individual (field pair_width pairs 0 k)) (individual (field pair_width pairs 1 k))

-- the most pairs, or asks of both kinds, of one call
abbrev pub most_asks : ℕ
most_asks = 256

-- whole pairs, not too many, and an entry for each in both rows that the answers are told in
pub record RowFits (pairs : List ℕ) (numbers counts : ℕ) : Type 0 where
  pub whole : Whole pair_width most_asks pairs
  pub number_each : numbers ≡ pair_count pairs
  pub count_each : counts ≡ pair_count pairs

-- entry k is the answer's number, and its count
pub record Tells (numbers counts : List ℕ) (k : ℕ) (r : Answer) : Type 0 where
  pub number : slice_get numbers k ≡ Some (answer_number r)
  pub count : slice_get counts k ≡ Some (answer_count r)

-- each answer that has an entry in both is told there
abbrev pub TellsEach : List Answer → List ℕ → List ℕ → Type 0
TellsEach answers numbers counts =
    (k : ℕ) → k < length numbers → k < length counts
    → IfSome (slice_get answers k) (λ r. Tells numbers counts k r)
