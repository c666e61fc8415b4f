-- The canonical model to any depth (docs/RULES.md, section 5): its elements, their concepts, its
-- edges and contradictions.
use Rattle.kinds.specs.declared.ConceptName.{ConceptName}
use Rattle.kinds.specs.declared.RoleName.{RoleName}
use Rattle.kinds.specs.declared.Individual.{Individual}
use Rattle.kinds.specs.declared.SignedRole.{SignedRole}
use Rattle.kinds.specs.declared.Concept.{Concept}
use Rattle.kinds.specs.declared.Concept.TheVariants.{Name, Exists}
use Rattle.kinds.specs.Kinds.{inverse, forward, backward, IndividualDeclared}
use Rattle.laws.specs.Member.{◌∈◌}
use Rattle.meaning.specs.Collection.{Collection}
use Rattle.meaning.specs.Orders.{RoleLe, ConceptLe}
use Rattle.theory.specs.Tree.{Elem, root, ◌▹◌}

-- a structure: things, the names they have, the signed roles of an ordered pair
pub record Structure : Type 1 where
  pub Thing : Type 0
  pub name : Thing → ConceptName → Type 0
  pub edge : Thing → SignedRole → Thing → Type 0

-- what trees grow from: which roots belong, their concepts, and the signed roles of an ordered pair
-- of roots
pub record Roots : Type 1 where
  pub Root : Type 0
  pub belongs : Root → Type 0
  pub has : Root → Concept → Type 0
  pub edge : Root → SignedRole → Root → Type 0

module _ (𝓒 : Collection) (𝓡 : Roots) where
  -- the concepts of an element: a root's own; of an unnamed element ending in R, all D with
  -- ∃(inverse of R) ≤ D
  abbrev pub HasConcept : Elem 𝓡.Root SignedRole → Concept → Type 0
  HasConcept (root a) D = 𝓡.has a D
  HasConcept (x ▹ R) D = ConceptLe 𝓒 (Exists (inverse R)) D

  -- the elements that belong: the bare roots, and x followed by R when x belongs and has ∃R
  pub data Belongs : Elem 𝓡.Root SignedRole → Type 0 where
    bare : {a : 𝓡.Root} → 𝓡.belongs a → Belongs (root a)
    grown : {x : Elem 𝓡.Root SignedRole} {R : SignedRole} → Belongs x → HasConcept x (Exists R)
        → Belongs (x ▹ R)

  -- roots are joined as said; an element and its child by R have every S with R ≤ S, and back
  -- the inverses
  pub data ModelEdge : Elem 𝓡.Root SignedRole → SignedRole → Elem 𝓡.Root SignedRole → Type 0 where
    fact : {a b : 𝓡.Root} {S : SignedRole} → 𝓡.edge a S b → ModelEdge (root a) S (root b)
    child : {x : Elem 𝓡.Root SignedRole} {R S : SignedRole} → Belongs (x ▹ R) → RoleLe 𝓒 R S
        → ModelEdge x S (x ▹ R)
    parent : {x : Elem 𝓡.Root SignedRole} {R S : SignedRole} → Belongs (x ▹ R) → RoleLe 𝓒 R S
        → ModelEdge (x ▹ R) (inverse S) x

  abbrev pub grown_from : Structure
  grown_from = record {
    Thing = Elem 𝓡.Root SignedRole;
    name = λ x A. HasConcept x (Name A);
    edge = ModelEdge;
  }

module _ (𝓒 : Collection) where
  -- what is typed of an individual: a name fact, or ∃r for the first and ∃r backward for the second
  -- of a role fact on r
  pub data Typed : Individual → Concept → Type 0 where
    named : {A : ConceptName} {a : Individual} → (A, a) ∈ 𝓒.concept-facts → Typed a (Name A)
    first : {r : RoleName} {a b : Individual} → (r, a, b) ∈ 𝓒.role-facts
        → Typed a (Exists (forward r))
    second : {r : RoleName} {a b : Individual} → (r, a, b) ∈ 𝓒.role-facts
        → Typed b (Exists (backward r))

  -- an individual's concepts: all D with C ≤ D, for C typed of it
  abbrev pub IndividualHas : Individual → Concept → Type 0
  IndividualHas a D = (C : Concept) × Typed a C × ConceptLe 𝓒 C D

  -- a role fact r(a, b) gives (a, b) every S with r ≤ S, and (b, a) the inverses
  pub data FactEdge : Individual → SignedRole → Individual → Type 0 where
    ahead : {r : RoleName} {a b : Individual} {S : SignedRole} → (r, a, b) ∈ 𝓒.role-facts
        → RoleLe 𝓒 (forward r) S → FactEdge a S b
    behind : {r : RoleName} {a b : Individual} {S : SignedRole} → (r, a, b) ∈ 𝓒.role-facts
        → RoleLe 𝓒 (forward r) S → FactEdge b (inverse S) a

  -- the roots of the canonical model are the declared individuals
  abbrev pub individuals : Roots
  individuals = record {
    Root = Individual;
    belongs = IndividualDeclared 𝓒.counts;
    has = IndividualHas;
    edge = FactEdge;
  }

  -- an individual followed by a finite row of signed roles; those that belong are the elements of the
  -- canonical model, and no edge leads to another
  abbrev pub Element : Type 0
  Element = Elem Individual SignedRole

  abbrev pub canonical : Structure
  canonical = grown_from 𝓒 individuals

  -- the canonical model breaks an exclusion, at an element or an ordered pair; unnamed ones count
  pub data Contradiction : Type 0 where
    at-element : (x : Element) (C D : Concept) → (C, D) ∈ 𝓒.concept-exclusions
        → Belongs 𝓒 individuals x → HasConcept 𝓒 individuals x C
        → HasConcept 𝓒 individuals x D → Contradiction
    at_pair : (x y : Element) (R S : SignedRole) → (R, S) ∈ 𝓒.role-exclusions
        → ModelEdge 𝓒 individuals x R y → ModelEdge 𝓒 individuals x S y → Contradiction

  -- the tree grown from one element whose only concept is B, and what follows from B
  abbrev pub only : Concept → Roots
  only B = record {
    Root = Unit {0};
    belongs = λ a. Unit {0};
    has = λ a D. ConceptLe 𝓒 B D;
    edge = λ a S b. ⊥;
  }

  abbrev pub tree_of : Concept → Structure
  tree_of B = grown_from 𝓒 (only B)
