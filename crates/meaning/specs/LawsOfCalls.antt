-- Laws of a library call's outcome, and of growth.
use Rattle.std.specs.Prelude.{◌≡◌, ◌≢◌, List, ℕ, ◌≤◌}
use Rattle.kinds.specs.declared.Individual.{Individual}
use Rattle.kinds.specs.declared.Answer.{Answer}
use Rattle.kinds.specs.Kinds.{IndividualDeclared}
use Rattle.kinds.specs.Answer.{answer_number}
use Rattle.meaning.specs.Collection.{Collection, WellFormed}
use Rattle.meaning.specs.Model.{Contradiction}
use Rattle.meaning.specs.Question.{Yes}
use Rattle.meaning.specs.Leaving.{Leaves}
use Rattle.meaning.specs.Lent.{Call, Sound}
use Rattle.meaning.specs.Outcome.{Outcome}
use Rattle.meaning.specs.Demands.{most_rounds, Enough, AsModelSays, Larger, GrowsTo, Grown, allowed}

-- every input gets one of the listed answers, 0 to 8 but never 7,
abbrev pub EveryInputAnswered : Type 0
EveryInputAnswered = (c : Call)
    → (r : Answer) × (x y : List ℕ) × Outcome c r x y × (answer_number r ≤ 8)
    × (answer_number r ≢ 7)

-- and only one, with one count; what it leaves in both areas is fixed
abbrev pub OutcomeOnce : Type 0
OutcomeOnce = (c : Call) (r r' : Answer) (x x' y y' : List ℕ) → Outcome c r x y
    → Outcome c r' x' y' → (r ≡ r') × (x ≡ x') × (y ≡ y')

-- with enough rounds: contradiction, yes and no as the canonical model says
abbrev pub SaysAsModel : Type 0
SaysAsModel = (c : Call) (r : Answer) (x y : List ℕ) → Sound c → Enough c → Outcome c r x y
    → AsModelSays c r

-- concepts × states × (states − 1) rounds always suffice
abbrev pub MostIsEnough : Type 0
MostIsEnough = (c : Call) → Sound c → most_rounds c.counts ≤ c.allowance → Enough c

-- a larger collection keeps a yes, or turns it into contradiction, keeps a contradiction, and its
-- no was a no before
abbrev pub AnswersGrow : Type 0
AnswersGrow = (c d : Call) → GrowsTo c d → Sound c → Sound d → Enough c → Enough d
    → (r q : Answer) (x y x' y' : List ℕ) → Outcome c r x y → Outcome d q x' y' → Grown r q

-- of the canonical models: the larger one keeps a contradiction, a yes, and a path that leaves
abbrev pub ContradictionGrows : Type 0
ContradictionGrows = (𝓒 𝓓 : Collection) → Larger 𝓒 𝓓 → WellFormed 𝓒 → WellFormed 𝓓
    → Contradiction 𝓒 → Contradiction 𝓓

abbrev pub YesGrows : Type 0
YesGrows = (𝓒 𝓓 : Collection) → Larger 𝓒 𝓓 → WellFormed 𝓒 → WellFormed 𝓓
    → (a b : Individual) → IndividualDeclared 𝓒.counts a → IndividualDeclared 𝓓.counts a
    → Yes 𝓒 a b → Yes 𝓓 a b

abbrev pub LeavesGrows : Type 0
LeavesGrows = (𝓒 𝓓 : Collection) → Larger 𝓒 𝓓 → WellFormed 𝓒 → WellFormed 𝓓
    → (a : Individual) → Leaves 𝓒 a → Leaves 𝓓 a

-- an answer given at one allowance returns with the same count, and the same areas, at every larger
-- one
abbrev pub AnswerReturns : Type 0
AnswerReturns = (c : Call) (n : ℕ) → c.allowance ≤ n → (r : Answer) (x y : List ℕ)
    → Outcome c r x y → answer_number r ≤ 2 → Outcome (allowed c n) r x y
