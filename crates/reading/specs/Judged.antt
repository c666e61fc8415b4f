-- The number that refuses a frame, or none (docs/RULES.md, sections 8, 12 and 13): of its tests, in
-- their order, the first that fails.
use Rattle.std.specs.Prelude.{ℕ, false, ◌+◌, ◌<◌, ◌≡◌, ◌≢◌, List, [], Result, Ok, Err, None, IsSome, ⊤, ◌∷◌}
use Rattle.kinds.specs.declared.Counts.{Counts}
use Rattle.kinds.specs.Kinds.{state, CountsFit, StateDeclared, IndividualDeclared, ConceptDeclared}
use Rattle.laws.specs.First.{FirstOf, ◌else◌}
use Rattle.meaning.specs.Collection.{role, test, step, ConceptsDeclared, RolesDeclared, ConceptFactDeclared, RoleFactDeclared, StepDeclared}
use Rattle.expression.specs.Depth.{TooDeep}
use Rattle.expression.specs.Fits.{MarksDeclared}
use Rattle.expression.specs.Answer.{HasMarks}
use Rattle.frames.specs.declared.Frame.{Frame}
use Rattle.frames.specs.declared.Frame.TheVariants.{Declared, ConceptRule, ConceptExclusion, RoleRule, RoleExclusion, ConceptFact, RoleFact, RoleStep, TestStep, Final, Ask, AskFrom, Allowance, Expression, Salvage, ListedMark}
use Rattle.reading.specs.declared.Refusal.{Refusal}
use Rattle.reading.specs.declared.Refusal.TheVariants.{BadCount, BadTable, BadNumber, BadAsk, OutOfPlace, NoExpression, AnotherShape}
use Rattle.reading.specs.declared.Refusal.TheVariants as refusal
use Rattle.reading.specs.Tables.{Kind, steps, finals, record_in, most, entries, table, list_in, declared_by, allowance_given, expression_given, salvages}

-- line 1 stands before, and no list has begun, which ends a file
pub record IsOpen (before : List Frame) : Type 0 where
  pub begun : before ≢ []
  pub no_list : list_in before ≡ []

-- not 11: line 1 declares, and no other line does; one allowance is given at most, and salvage is
-- chosen once at most; the question is given by one expression or by steps and final states; behind
-- the first entry of a list there is nothing but entries
module _ (before : List Frame) where
  abbrev pub InPlace : Frame → Type 0
  InPlace (Declared c) = before ≡ []
  InPlace (Allowance n) = IsOpen before × (allowance_given before ≡ None)
  InPlace (RoleStep s R t) = IsOpen before × (expression_given before ≡ None)
  InPlace (TestStep s A t) = IsOpen before × (expression_given before ≡ None)
  InPlace (Final s) = IsOpen before × (expression_given before ≡ None)
  InPlace (Expression row) =
      IsOpen before × (expression_given before ≡ None)
      × (table steps before ≡ []) × (table finals before ≡ [])
  InPlace Salvage = IsOpen before × (salvages before ≡ false)
  InPlace (ListedMark n s t B) = before ≢ []
  InPlace other = IsOpen before

-- not 4: what is declared fits
abbrev pub CountsOk : Frame → Type 0
CountsOk (Declared c) = CountsFit c
CountsOk other = ⊤

-- not 5: the table that its record goes into has room for one more
abbrev pub HasRoom : List Frame → Frame → Type 0
HasRoom before f = (kind : Kind) → IsSome (record_in kind f) → entries kind before < most kind

-- not 6: each number of its record is declared, and what each role or test mark reads; this test
-- passes any deed number, and any round of a list
module _ (counts : Counts) where
  abbrev pub NumbersOk : Frame → Type 0
  NumbersOk (ConceptRule C D) = ConceptsDeclared counts (C, D)
  NumbersOk (ConceptExclusion C D) = ConceptsDeclared counts (C, D)
  NumbersOk (RoleRule R S) = RolesDeclared counts (R, S)
  NumbersOk (RoleExclusion R S) = RolesDeclared counts (R, S)
  NumbersOk (ConceptFact A a n) = ConceptFactDeclared counts (A, a)
  NumbersOk (RoleFact r a b n) = RoleFactDeclared counts (r, a, b)
  NumbersOk (RoleStep s R t) = StepDeclared counts (step s (role R) t)
  NumbersOk (TestStep s A t) = StepDeclared counts (step s (test A) t)
  NumbersOk (Final s) = StateDeclared counts s
  NumbersOk (Expression row) = MarksDeclared counts row
  NumbersOk (ListedMark n s t B) =
      StateDeclared counts s × StateDeclared counts t × ConceptDeclared counts B
  NumbersOk other = ⊤

-- not 8: each asked individual is declared
module _ (counts : Counts) where
  abbrev pub AskOk : Frame → Type 0
  AskOk (Ask a b) = IndividualDeclared counts a × IndividualDeclared counts b
  AskOk (AskFrom a) = IndividualDeclared counts a
  AskOk other = ⊤

-- not 13: the brackets of its expression are not too deep
abbrev pub IsShallow : Frame → Type 0
IsShallow (Expression row) = ¬ TooDeep row
IsShallow other = ⊤

-- not 12: its marks are an expression
abbrev pub IsExpressed : Frame → Type 0
IsExpressed (Expression row) = (n : ℕ) × HasMarks row n
IsExpressed other = ⊤

-- not 14: a state is declared for each role and test mark of its expression and one more, and the
-- start is 0
module _ (counts : Counts) where
  abbrev pub IsShaped : Frame → Type 0
  IsShaped (Expression row) =
      (n : ℕ) × HasMarks row n × (counts.states ≡ n + 1) × (counts.start ≡ state 0)
  IsShaped other = ⊤

-- a frame after those before it: 11, then 4, 5, 6, 8, 13, 12, 14, and else it is taken
module _ (before : List Frame) (f : Frame) where
  abbrev pub Judged : Result (Unit {0}) Refusal → Type 0
  Judged =
      FirstOf (InPlace before f else Err OutOfPlace
      ∷ CountsOk f else Err BadCount
      ∷ HasRoom before f else Err BadTable
      ∷ NumbersOk (declared_by before) f else Err BadNumber
      ∷ AskOk (declared_by before) f else Err BadAsk
      ∷ IsShallow f else Err refusal.TooDeep
      ∷ IsExpressed f else Err NoExpression
      ∷ IsShaped (declared_by before) f else Err AnotherShape ∷ [])
      (λ r. r ≡ Ok tt)
