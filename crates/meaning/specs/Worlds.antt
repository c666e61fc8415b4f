-- The worlds that a collection may speak of (docs/RULES.md, section 1). What holds in each of them
-- its facts and rules force.
use Rattle.kinds.specs.declared.ConceptName.{ConceptName}
use Rattle.kinds.specs.declared.RoleName.{RoleName}
use Rattle.kinds.specs.declared.Individual.{Individual}
use Rattle.kinds.specs.declared.State.{State}
use Rattle.kinds.specs.declared.SignedRole.{SignedRole}
use Rattle.kinds.specs.declared.Concept.{Concept}
use Rattle.kinds.specs.declared.Ask.{Ask}
use Rattle.kinds.specs.declared.Ask.TheVariants.{Pair, From}
use Rattle.kinds.specs.declared.Concept.TheVariants.{Name, Exists}
use Rattle.kinds.specs.Kinds.{inverse, forward}
use Rattle.laws.specs.Member.{◌∈◌}
use Rattle.meaning.specs.Collection.{Collection}
use Rattle.theory.specs.Tree.{root}
use Rattle.meaning.specs.Model.{Structure, Element, Belongs, individuals, canonical}
use Rattle.meaning.specs.Question.{PathIn}
use Rattle.meaning.specs.Leaving.{LeavesIn}

-- a world: a structure, and the thing that each individual is. Different individuals may be one
-- thing
pub record World : Type 1 where
  pub structure : Structure
  pub person : Individual → structure.Thing

-- a thing is in a basic concept: it has the name, or a neighbour by the signed role
abbrev pub In : (𝓢 : Structure) → 𝓢.Thing → Concept → Type 0
In 𝓢 x (Name A) = 𝓢.name x A
In 𝓢 x (Exists R) = (y : 𝓢.Thing) × 𝓢.edge x R y

module _ (𝓒 : Collection) (𝓦 : World) where
  open 𝓦 use {structure, person}

  -- the world has the facts and keeps the rules; a role and its inverse are one relation, read both
  -- ways
  pub record Keeps : Type 0 where
    pub back : {x y : structure.Thing} {S : SignedRole} → structure.edge x S y
        → structure.edge y (inverse S) x
    pub concept-fact : {A : ConceptName} {a : Individual} → (A, a) ∈ 𝓒.concept-facts
        → structure.name (person a) A
    pub role-fact : {r : RoleName} {a b : Individual} → (r, a, b) ∈ 𝓒.role-facts
        → structure.edge (person a) (forward r) (person b)
    pub concept-rule : {C D : Concept} → (C, D) ∈ 𝓒.concept-rules → (x : structure.Thing)
        → In structure x C → In structure x D
    pub role-rule : {R S : SignedRole} → (R, S) ∈ 𝓒.role-rules → {x y : structure.Thing}
        → structure.edge x R y → structure.edge x S y

  -- and breaks no exclusion
  pub record Respects : Type 0 where
    pub concepts : {C D : Concept} → (C, D) ∈ 𝓒.concept-exclusions → (x : structure.Thing)
        → In structure x C → In structure x D → ⊥
    pub roles : {R S : SignedRole} → (R, S) ∈ 𝓒.role-exclusions → {x y : structure.Thing}
        → structure.edge x R y → structure.edge x S y → ⊥

  -- a world of the collection: both
  pub record IsWorld : Type 0 where
    pub keeps : Keeps
    pub respects : Respects

  -- a path of the question leads in it from one individual to the other
  abbrev pub YesIn : Individual → Individual → Type 0
  YesIn a b =
      (t : State) × (t ∈ 𝓒.finals) × PathIn 𝓒 structure (person a) 𝓒.counts.start (person b) t

  -- an ask has its path in it
  abbrev pub HasPathIn : Ask → Type 0
  HasPathIn (Pair a b) = YesIn a b
  HasPathIn (From a) = LeavesIn 𝓒 structure (person a)

-- the canonical model as a world: the elements that belong, with their names and edges; each
-- individual is itself
abbrev pub model_world : Collection → World
model_world 𝓒 = record {
  structure = record {
    Thing = Element 𝓒;
    name = λ x A. Belongs 𝓒 (individuals 𝓒) x × (canonical 𝓒).name x A;
    edge = λ x S y. Belongs 𝓒 (individuals 𝓒) x × Belongs 𝓒 (individuals 𝓒) y
        × (canonical 𝓒).edge x S y;
  };
  person = root;
}
