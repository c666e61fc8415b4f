-- Laws of the canonical model: its elements and edges; that it has every fact and keeps every rule;
-- where it breaks an exclusion; what its paths spell.
use Rattle.std.specs.Prelude.{◌≡◌, ◌↔◌, ◌⊎◌, List, [], ◌∷◌}
use Rattle.kinds.specs.declared.ConceptName.{ConceptName}
use Rattle.kinds.specs.declared.RoleName.{RoleName}
use Rattle.kinds.specs.declared.Individual.{Individual}
use Rattle.kinds.specs.declared.State.{State}
use Rattle.kinds.specs.declared.SignedRole.{SignedRole}
use Rattle.kinds.specs.declared.Concept.{Concept}
use Rattle.kinds.specs.declared.Concept.TheVariants.{Name, Exists}
use Rattle.kinds.specs.Kinds.{inverse, forward, backward, IndividualDeclared}
use Rattle.laws.specs.Member.{◌∈◌}
use Rattle.meaning.specs.Collection.{Collection, RoleStep, TestStep, NumbersDeclared, WellFormed}
use Rattle.meaning.specs.Orders.{RoleLe, ConceptLe}
use Rattle.theory.specs.Tree.{root, ◌▹◌}
use Rattle.meaning.specs.Model as model
use Rattle.meaning.specs.Model.{Element, individuals, canonical, Contradiction}
use Rattle.meaning.specs.Question.{PathIn, Yes, SpellsWord}
use Rattle.meaning.specs.Leaving.{LeavesIn, Leaves, SpellsFrom}
use Rattle.meaning.specs.Walk.{IndividualsWalk, IndividualsWalkOut}
use Rattle.meaning.specs.Clash.{Clash}
use Rattle.meaning.specs.StraightBack.{lean_model, LeanContradiction, LeanYes}

-- of the canonical model: an element belongs to it, has a concept, is joined to another by a role
abbrev pub Belongs : (𝓒 : Collection) → Element 𝓒 → Type 0
Belongs 𝓒 = model.Belongs 𝓒 (individuals 𝓒)

abbrev pub HasConcept : (𝓒 : Collection) → Element 𝓒 → Concept → Type 0
HasConcept 𝓒 = model.HasConcept 𝓒 (individuals 𝓒)

abbrev pub Edge : (𝓒 : Collection) → Element 𝓒 → SignedRole → Element 𝓒 → Type 0
Edge 𝓒 = model.ModelEdge 𝓒 (individuals 𝓒)

-- an individual followed by a row of signed roles, the last of them first
abbrev pub followed : (𝓒 : Collection) → Individual → List SignedRole → Element 𝓒
followed 𝓒 a [] = root a
followed 𝓒 a (R ∷ w) = followed 𝓒 a w ▹ R

-- an element is an individual followed by a finite row of signed roles, of any length
abbrev pub ElementsAreRows : Type 0
ElementsAreRows = (𝓒 : Collection) (x : Element 𝓒)
    → (a : Individual) × (w : List SignedRole) × (x ≡ followed 𝓒 a w)

-- the bare individual belongs, one that is declared
abbrev pub BareBelongs : Type 0
BareBelongs = (𝓒 : Collection) (a : Individual)
    → Belongs 𝓒 (root a) ↔ IndividualDeclared 𝓒.counts a

-- an element followed by R belongs exactly when the element belongs and has ∃R
abbrev pub RowBelongs : Type 0
RowBelongs = (𝓒 : Collection) (x : Element 𝓒) (R : SignedRole)
    → Belongs 𝓒 (x ▹ R) ↔ (Belongs 𝓒 x × HasConcept 𝓒 x (Exists R))

-- an unnamed element that ends in R has every D with ∃(inverse of R) ≤ D
abbrev pub UnnamedHas : Type 0
UnnamedHas = (𝓒 : Collection) (x : Element 𝓒) (R : SignedRole) (D : Concept)
    → HasConcept 𝓒 (x ▹ R) D ↔ ConceptLe 𝓒 (Exists (inverse R)) D

-- a role fact r(a, b) gives the pair (a, b) every S with r ≤ S, and the pair (b, a) the inverses
abbrev pub FactsJoin : Type 0
FactsJoin = (𝓒 : Collection) (r : RoleName) (a b : Individual) → (r, a, b) ∈ 𝓒.role-facts
    → (S : SignedRole) → RoleLe 𝓒 (forward r) S
    → Edge 𝓒 (root a) S (root b) × Edge 𝓒 (root b) (inverse S) (root a)

-- so one whose ends are equal, r(a, a), gives the individual an edge to itself: with the role, with
-- the inverse, and with all that follows from either, the inverses of these too
pub record JoinedToItself (𝓒 : Collection) (r : RoleName) (a : Individual) : Type 0 where
  pub role : Edge 𝓒 (root a) (forward r) (root a)
  pub turned : Edge 𝓒 (root a) (backward r) (root a)
  pub above : (S : SignedRole) → RoleLe 𝓒 (forward r) S ⊎ RoleLe 𝓒 (backward r) S
      → Edge 𝓒 (root a) S (root a) × Edge 𝓒 (root a) (inverse S) (root a)

abbrev pub SelfFactsJoin : Type 0
SelfFactsJoin = (𝓒 : Collection) (r : RoleName) (a : Individual) → (r, a, a) ∈ 𝓒.role-facts
    → JoinedToItself 𝓒 r a

-- an element and its child by R are joined likewise
abbrev pub ChildrenJoin : Type 0
ChildrenJoin = (𝓒 : Collection) (x : Element 𝓒) (R : SignedRole) → Belongs 𝓒 (x ▹ R)
    → (S : SignedRole) → RoleLe 𝓒 R S
    → Edge 𝓒 x S (x ▹ R) × Edge 𝓒 (x ▹ R) (inverse S) x

-- every fact holds
abbrev pub ConceptFactsHold : Type 0
ConceptFactsHold = (𝓒 : Collection) (A : ConceptName) (a : Individual) → (A, a) ∈ 𝓒.concept-facts
    → (canonical 𝓒).name (root a) A

abbrev pub RoleFactsHold : Type 0
RoleFactsHold = (𝓒 : Collection) (r : RoleName) (a b : Individual) → (r, a, b) ∈ 𝓒.role-facts
    → Edge 𝓒 (root a) (forward r) (root b)

-- every rule is kept
abbrev pub ConceptRulesKept : Type 0
ConceptRulesKept = (𝓒 : Collection) (C D : Concept) → (C, D) ∈ 𝓒.concept-rules
    → (x : Element 𝓒) → HasConcept 𝓒 x C → HasConcept 𝓒 x D

abbrev pub RoleRulesKept : Type 0
RoleRulesKept = (𝓒 : Collection) (R S : SignedRole) → (R, S) ∈ 𝓒.role-rules
    → (x y : Element 𝓒) → Edge 𝓒 x R y → Edge 𝓒 x S y

-- an element has every D with C ≤ D, an ordered pair every S with R ≤ S
abbrev pub ConceptsAbove : Type 0
ConceptsAbove = (𝓒 : Collection) (x : Element 𝓒) (C D : Concept) → HasConcept 𝓒 x C → ConceptLe 𝓒 C D
    → HasConcept 𝓒 x D

abbrev pub RolesAbove : Type 0
RolesAbove = (𝓒 : Collection) (x y : Element 𝓒) (R S : SignedRole) → Edge 𝓒 x R y → RoleLe 𝓒 R S
    → Edge 𝓒 x S y

-- the pair the other way round has the inverses
abbrev pub InversesBack : Type 0
InversesBack = (𝓒 : Collection) (x y : Element 𝓒) (S : SignedRole) → Edge 𝓒 x S y
    → Edge 𝓒 y (inverse S) x

-- ∃S is "has a neighbour by S": whoever has one has the concept, and the other way round
abbrev pub NeighbourIsHad : Type 0
NeighbourIsHad = (𝓒 : Collection) (x y : Element 𝓒) (S : SignedRole) → Edge 𝓒 x S y
    → HasConcept 𝓒 x (Exists S)

abbrev pub NeighbourIsThere : Type 0
NeighbourIsThere = (𝓒 : Collection) (x : Element 𝓒) (S : SignedRole) → Belongs 𝓒 x
    → HasConcept 𝓒 x (Exists S) → (y : Element 𝓒) × Belongs 𝓒 y × Edge 𝓒 x S y

-- neighbours that two rules promise are two elements, and not one
abbrev pub NeighboursDiffer : Type 0
NeighboursDiffer = (𝓒 : Collection) (x : Element 𝓒) (R S : SignedRole) → (R ≡ S → ⊥)
    → x ▹ R ≡ x ▹ S → ⊥

-- leaving out the child that goes straight back changes no contradiction and no yes
abbrev pub LeanContradictionSame : Type 0
LeanContradictionSame = (𝓒 : Collection) → Contradiction 𝓒 ↔ LeanContradiction 𝓒

abbrev pub LeanYesSame : Type 0
LeanYesSame = (𝓒 : Collection) → WellFormed 𝓒 → (a b : Individual)
    → IndividualDeclared 𝓒.counts a → Yes 𝓒 a b ↔ LeanYes 𝓒 a b

-- an exclusion of a concept or role from itself forbids it altogether
abbrev pub ConceptForbidden : Type 0
ConceptForbidden = (𝓒 : Collection) (C : Concept) → (C, C) ∈ 𝓒.concept-exclusions
    → (x : Element 𝓒) → Belongs 𝓒 x → HasConcept 𝓒 x C → Contradiction 𝓒

abbrev pub RoleForbidden : Type 0
RoleForbidden = (𝓒 : Collection) (R : SignedRole) → (R, R) ∈ 𝓒.role-exclusions
    → (x y : Element 𝓒) → Edge 𝓒 x R y → Contradiction 𝓒

-- an exclusion of R from its inverse forbids a role fact with equal ends whose role is one from which
-- R or its inverse follows
abbrev pub SelfForbidden : Type 0
SelfForbidden = (𝓒 : Collection) (R : SignedRole) → (R, inverse R) ∈ 𝓒.role-exclusions
    → (r : RoleName) (a : Individual) → (r, a, a) ∈ 𝓒.role-facts
    → RoleLe 𝓒 (forward r) R ⊎ RoleLe 𝓒 (forward r) (inverse R) → Contradiction 𝓒

-- a concept from which both sides of an exclusion follow is forbidden too
abbrev pub EmptyConceptForbidden : Type 0
EmptyConceptForbidden = (𝓒 : Collection) (C D E : Concept) → ConceptLe 𝓒 C D → ConceptLe 𝓒 C E
    → (D, E) ∈ 𝓒.concept-exclusions
    → (x : Element 𝓒) → Belongs 𝓒 x → HasConcept 𝓒 x C → Contradiction 𝓒

-- no element has both sides of a concept exclusion, and no pair those of a role exclusion
pub record NothingExcluded (𝓒 : Collection) : Type 0 where
  pub concepts : (C D : Concept) → (C, D) ∈ 𝓒.concept-exclusions
      → (x : Element 𝓒) → Belongs 𝓒 x → HasConcept 𝓒 x C → HasConcept 𝓒 x D → ⊥
  pub roles : (R S : SignedRole) → (R, S) ∈ 𝓒.role-exclusions
      → (x y : Element 𝓒) → Edge 𝓒 x R y → Edge 𝓒 x S y → ⊥

-- where nobody has what is excluded there is no contradiction, and only there
abbrev pub NoContradictionWhereNone : Type 0
NoContradictionWhereNone = (𝓒 : Collection) → NothingExcluded 𝓒 ↔ (Contradiction 𝓒 → ⊥)

-- a contradiction at any depth is found by the finite test, and what that finds is one
abbrev pub ContradictionFound : Type 0
ContradictionFound = (𝓒 : Collection) → NumbersDeclared 𝓒 → Contradiction 𝓒 ↔ Clash 𝓒

-- a role step moves along an edge with that signed role
abbrev pub RoleStepMoves : Type 0
RoleStepMoves = (𝓒 : Collection) (s t : State) (S : SignedRole) (x y : Element 𝓒)
    → RoleStep 𝓒 s S t → Edge 𝓒 x S y → PathIn 𝓒 (canonical 𝓒) x s y t

-- a test step stays, at an element that has that name
abbrev pub TestStepStays : Type 0
TestStepStays = (𝓒 : Collection) (s t : State) (A : ConceptName) (x : Element 𝓒)
    → TestStep 𝓒 s A t → HasConcept 𝓒 x (Name A) → PathIn 𝓒 (canonical 𝓒) x s x t

-- a pair is yes exactly when a path from the first to the second spells a word of the question
abbrev pub YesIsWord : Type 0
YesIsWord = (𝓒 : Collection) (a b : Individual) → Yes 𝓒 a b ↔ SpellsWord 𝓒 a b

-- the empty path counts
abbrev pub EmptyPathCounts : Type 0
EmptyPathCounts = (𝓒 : Collection) (a : Individual) → 𝓒.counts.start ∈ 𝓒.finals → Yes 𝓒 a a

-- a path leads from individual to individual exactly when the individuals' walk does
abbrev pub PathIsWalk : Type 0
PathIsWalk = (𝓒 : Collection) → WellFormed 𝓒 → (a b : Individual) (s t : State)
    → IndividualDeclared 𝓒.counts a
    → PathIn 𝓒 (canonical 𝓒) (root a) s (root b) t ↔ IndividualsWalk 𝓒 a s b t

-- an individual is left exactly when some path from it spells a word of the question
abbrev pub LeavesIsWord : Type 0
LeavesIsWord = (𝓒 : Collection) (a : Individual) → Leaves 𝓒 a ↔ SpellsFrom 𝓒 a

-- the empty path counts here too
abbrev pub EmptyPathLeaves : Type 0
EmptyPathLeaves = (𝓒 : Collection) (a : Individual) → 𝓒.counts.start ∈ 𝓒.finals → Leaves 𝓒 a

-- the first of a pair that is yes is left
abbrev pub YesLeaves : Type 0
YesLeaves = (𝓒 : Collection) (a b : Individual) → Yes 𝓒 a b → Leaves 𝓒 a

-- a path leaves an individual exactly when the individuals' walk leads out
abbrev pub LeavesIsWalk : Type 0
LeavesIsWalk = (𝓒 : Collection) → WellFormed 𝓒 → (a : Individual)
    → IndividualDeclared 𝓒.counts a → Leaves 𝓒 a ↔ IndividualsWalkOut 𝓒 a 𝓒.counts.start

-- and no answer differs where the children that go straight back are left out
abbrev pub LeanLeavesSame : Type 0
LeanLeavesSame = (𝓒 : Collection) → WellFormed 𝓒 → (a : Individual)
    → IndividualDeclared 𝓒.counts a → Leaves 𝓒 a ↔ LeavesIn 𝓒 (lean_model 𝓒) (root a)
