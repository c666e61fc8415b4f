-- A collection: five counts and eight lists of records (docs/RULES.md, section 3). It is well-formed
-- when its counts fit and its numbers are declared.
use Rattle.std.specs.Prelude.{List}
use Rattle.kinds.specs.declared.ConceptName.{ConceptName}
use Rattle.kinds.specs.declared.RoleName.{RoleName}
use Rattle.kinds.specs.declared.Individual.{Individual}
use Rattle.kinds.specs.declared.State.{State}
use Rattle.kinds.specs.declared.SignedRole.{SignedRole}
use Rattle.kinds.specs.declared.Concept.{Concept}
use Rattle.kinds.specs.declared.Counts.{Counts}
use Rattle.kinds.specs.Kinds.{NameDeclared, RoleDeclared, SignedDeclared, IndividualDeclared, StateDeclared, ConceptDeclared, CountsFit}
use Rattle.laws.specs.Member.{◌∈◌}

-- what a step of the question reads: a signed role, or a test on a name
pub data Letter : Type 0 where
  role : SignedRole → Letter
  test : ConceptName → Letter

-- a step of the question: from a state, what it reads, to a state
pub data Step : Type 0 where
  step : State → Letter → State → Step

-- what is declared, and the records of each table
pub record Collection : Type 0 where
  pub counts : Counts
  pub concept-rules : List (Concept × Concept)
  pub concept-exclusions : List (Concept × Concept)
  pub role-rules : List (SignedRole × SignedRole)
  pub role-exclusions : List (SignedRole × SignedRole)
  pub concept-facts : List (ConceptName × Individual)
  pub role-facts : List (RoleName × Individual × Individual)
  pub steps : List Step
  pub finals : List State

-- a role step S, or a test step on A, leads from s to t
abbrev pub RoleStep : Collection → State → SignedRole → State → Type 0
RoleStep 𝓒 s S t = step s (role S) t ∈ 𝓒.steps

abbrev pub TestStep : Collection → State → ConceptName → State → Type 0
TestStep 𝓒 s A t = step s (test A) t ∈ 𝓒.steps

-- every number in a record is declared
abbrev pub LetterDeclared : Counts → Letter → Type 0
LetterDeclared c (role S) = SignedDeclared c S
LetterDeclared c (test A) = NameDeclared c A

abbrev pub StepDeclared : Counts → Step → Type 0
StepDeclared c (step s l t) = StateDeclared c s × LetterDeclared c l × StateDeclared c t

abbrev pub ConceptsDeclared : Counts → Concept × Concept → Type 0
ConceptsDeclared c r = ConceptDeclared c r.0 × ConceptDeclared c r.1

abbrev pub RolesDeclared : Counts → SignedRole × SignedRole → Type 0
RolesDeclared c r = SignedDeclared c r.0 × SignedDeclared c r.1

abbrev pub ConceptFactDeclared : Counts → ConceptName × Individual → Type 0
ConceptFactDeclared c f = NameDeclared c f.0 × IndividualDeclared c f.1

abbrev pub RoleFactDeclared : Counts → RoleName × Individual × Individual → Type 0
RoleFactDeclared c f = RoleDeclared c f.0 × IndividualDeclared c f.1 × IndividualDeclared c f.2

abbrev pub Each : {A : Type 0} → List A → (A → Type 0) → Type 0
Each {A} l P = (x : A) → x ∈ l → P x

pub record NumbersDeclared (𝓒 : Collection) : Type 0 where
  pub concept-rules : Each 𝓒.concept-rules (ConceptsDeclared 𝓒.counts)
  pub concept-exclusions : Each 𝓒.concept-exclusions (ConceptsDeclared 𝓒.counts)
  pub role-rules : Each 𝓒.role-rules (RolesDeclared 𝓒.counts)
  pub role-exclusions : Each 𝓒.role-exclusions (RolesDeclared 𝓒.counts)
  pub concept-facts : Each 𝓒.concept-facts (ConceptFactDeclared 𝓒.counts)
  pub role-facts : Each 𝓒.role-facts (RoleFactDeclared 𝓒.counts)
  pub steps : Each 𝓒.steps (StepDeclared 𝓒.counts)
  pub finals : Each 𝓒.finals (StateDeclared 𝓒.counts)

pub record WellFormed (𝓒 : Collection) : Type 0 where
  pub counts : CountsFit 𝓒.counts
  pub numbers : NumbersDeclared 𝓒
