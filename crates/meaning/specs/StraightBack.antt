-- The canonical model without the children that go straight back: S after R where S is the inverse
-- of R.
use Rattle.std.specs.Prelude.{◌≡◌}
use Rattle.kinds.specs.declared.Individual.{Individual}
use Rattle.kinds.specs.declared.State.{State}
use Rattle.kinds.specs.declared.SignedRole.{SignedRole}
use Rattle.kinds.specs.declared.Concept.{Concept}
use Rattle.kinds.specs.declared.Concept.TheVariants.{Name, Exists}
use Rattle.kinds.specs.Kinds.{inverse, IndividualDeclared}
use Rattle.laws.specs.Member.{◌∈◌}
use Rattle.meaning.specs.Collection.{Collection}
use Rattle.meaning.specs.Orders.{RoleLe}
use Rattle.theory.specs.Tree.{root, ◌▹◌}
use Rattle.meaning.specs.Model.{Structure, HasConcept, individuals, Element, FactEdge}
use Rattle.meaning.specs.Question.{PathIn}

module _ (𝓒 : Collection) where
  -- S goes straight back from an element: it is the inverse of the role that the element ends in
  abbrev pub GoesBack : Element 𝓒 → SignedRole → Type 0
  GoesBack (root a) S = ⊥
  GoesBack (x ▹ R) S = S ≡ inverse R

  -- the elements that are left: as `Belongs`, but no S follows R where S goes straight back
  pub data Lean : Element 𝓒 → Type 0 where
    bare : {a : Individual} → IndividualDeclared 𝓒.counts a → Lean (root a)
    grown : {x : Element 𝓒} {R : SignedRole} → Lean x → HasConcept 𝓒 (individuals 𝓒) x (Exists R)
        → (GoesBack x R → ⊥)
        → Lean (x ▹ R)

  -- as `ModelEdge`, between elements that are left
  pub data LeanEdge : Element 𝓒 → SignedRole → Element 𝓒 → Type 0 where
    fact : {a b : Individual} {S : SignedRole} → FactEdge 𝓒 a S b → LeanEdge (root a) S (root b)
    child : {x : Element 𝓒} {R S : SignedRole} → Lean (x ▹ R) → RoleLe 𝓒 R S
        → LeanEdge x S (x ▹ R)
    parent : {x : Element 𝓒} {R S : SignedRole} → Lean (x ▹ R) → RoleLe 𝓒 R S
        → LeanEdge (x ▹ R) (inverse S) x

  abbrev pub lean_model : Structure
  lean_model = record {
    Thing = Element 𝓒;
    name = λ x A. HasConcept 𝓒 (individuals 𝓒) x (Name A);
    edge = LeanEdge;
  }

  -- as `Contradiction` and `Yes`, of what is left
  pub data LeanContradiction : Type 0 where
    at-element : (x : Element 𝓒) (C D : Concept) → (C, D) ∈ 𝓒.concept-exclusions → Lean x
        → HasConcept 𝓒 (individuals 𝓒) x C → HasConcept 𝓒 (individuals 𝓒) x D
        → LeanContradiction
    at_pair : (x y : Element 𝓒) (R S : SignedRole) → (R, S) ∈ 𝓒.role-exclusions → LeanEdge x R y
        → LeanEdge x S y → LeanContradiction

  abbrev pub LeanYes : Individual → Individual → Type 0
  LeanYes a b =
      (t : State) × (t ∈ 𝓒.finals) × PathIn 𝓒 lean_model (root a) 𝓒.counts.start (root b) t
