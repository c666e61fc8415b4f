-- The canonical model has every fact and keeps every rule: edges read both ways and follow the role order, concepts follow the concept order.
use Rattle.std.specs.Prelude.{◌≡◌, refl, ◌⊎◌, List, [], ◌∷◌}
use Rattle.std.proofs.Common.{ap, inl, inr}
use Rattle.kinds.specs.declared.ConceptName.{ConceptName}
use Rattle.kinds.specs.declared.RoleName.{RoleName}
use Rattle.kinds.specs.declared.Individual.{Individual}
use Rattle.kinds.specs.declared.SignedRole.{SignedRole}
use Rattle.kinds.specs.declared.Concept.{Concept}
use Rattle.kinds.specs.declared.Concept.TheVariants.{Name, Exists}
use Rattle.kinds.specs.Kinds.{inverse, inverse-inverse, inverse-forward, forward, backward, IndividualDeclared}
use Rattle.laws.specs.Member.{◌∈◌}
use Rattle.meaning.specs.Collection.{Collection}
use Rattle.meaning.specs.Orders.{RoleLe, ConceptLe, same, then, rule, turned, wider}
use Rattle.theory.specs.Tree.{Elem, root, ◌▹◌}
use Rattle.meaning.specs.Model.{Roots, HasConcept, Belongs, bare, grown, ModelEdge, fact, child, parent, individuals, Element, named, first, second, IndividualHas, FactEdge, ahead, behind, Contradiction, at_pair}
use Rattle.meaning.specs.LawsOfModel.{followed, JoinedToItself}
use Rattle.meaning.proofs.RoleTurned.{turn}

-- a child's parent belongs, and has what the child was promised by
pub born : (𝓒 : Collection) (𝓡 : Roots) {x : Elem 𝓡.Root SignedRole} {R : SignedRole} → Belongs 𝓒 𝓡 (x ▹ R) → Belongs 𝓒 𝓡 x × HasConcept 𝓒 𝓡 x (Exists R)
born 𝓒 𝓡 (grown b h) = (b, h)

-- a bare individual that belongs is declared
pub bare-declared : (𝓒 : Collection) {a : Individual} → Belongs 𝓒 (individuals 𝓒) (root a) → IndividualDeclared 𝓒.counts a
bare-declared 𝓒 (bare d) = d

-- the row that leads to an element
pub row-of : (𝓒 : Collection) (x : Element 𝓒) → (a : Individual) × (w : List SignedRole) × (x ≡ followed 𝓒 a w)
row-of 𝓒 (root a) = (a, [], refl)
row-of 𝓒 (x ▹ R) = let w = row-of 𝓒 x in (w.0, R ∷ w.1, ap (λ y. y ▹ R) w.2)

module _ (𝓒 : Collection) where
  fact-back : {a b : Individual} {S : SignedRole} → FactEdge 𝓒 a S b → FactEdge 𝓒 b (inverse S) a
  fact-back (ahead m l) = behind m l
  fact-back (behind {S = S} m l) = rw (inverse-inverse S) (ahead m l)

  fact-above : {a b : Individual} {R S : SignedRole} → FactEdge 𝓒 a R b → RoleLe 𝓒 R S → FactEdge 𝓒 a S b
  fact-above (ahead m l) k = ahead m (then l k)
  fact-above {S = S} (behind {a = b} {b = a} m l) k =
      let f : FactEdge 𝓒 a (inverse (inverse S)) b = behind m (then l (turn 𝓒 k)) in
      rw (inverse-inverse S) at f

  fact-has : {a b : Individual} {S : SignedRole} → FactEdge 𝓒 a S b → IndividualHas 𝓒 a (Exists S)
  fact-has (ahead {r = r} m l) = (Exists (forward r), first m, wider l)
  fact-has (behind {r = r} {S = S} m l) =
      let k : RoleLe 𝓒 (inverse (forward r)) (inverse S) = turned l in
      (Exists (backward r), second m, wider (rw (inverse-forward r) at k))

  -- THEOREM: an edge read the other way has the inverse
  pub edge-back : {x y : Element 𝓒} {S : SignedRole} → ModelEdge 𝓒 (individuals 𝓒) x S y → ModelEdge 𝓒 (individuals 𝓒) y (inverse S) x
  edge-back (fact f) = fact (fact-back f)
  edge-back (child b l) = parent b l
  edge-back (parent {S = S} b l) = rw (inverse-inverse S) (child b l)

  -- THEOREM: an edge has every role that follows from its own
  pub edge-above : {x y : Element 𝓒} {R S : SignedRole} → ModelEdge 𝓒 (individuals 𝓒) x R y → RoleLe 𝓒 R S → ModelEdge 𝓒 (individuals 𝓒) x S y
  edge-above (fact f) k = fact (fact-above f k)
  edge-above (child b l) k = child b (then l k)
  edge-above {S = S} (parent {x = x} {R = R} b l) k =
      let f : ModelEdge 𝓒 (individuals 𝓒) (x ▹ R) (inverse (inverse S)) x = parent b (then l (turn 𝓒 k)) in
      rw (inverse-inverse S) at f

  -- THEOREM: an element has every concept that follows from its own
  pub has_above : (x : Element 𝓒) {C D : Concept} → HasConcept 𝓒 (individuals 𝓒) x C → ConceptLe 𝓒 C D → HasConcept 𝓒 (individuals 𝓒) x D
  has_above (root a) h k = (h.0, h.1, then h.2 k)
  has_above (x ▹ R) h k = then h k

  -- THEOREM: whoever has an S-neighbour has the concept ∃S
  pub edge-has : {x y : Element 𝓒} {S : SignedRole} → ModelEdge 𝓒 (individuals 𝓒) x S y → HasConcept 𝓒 (individuals 𝓒) x (Exists S)
  edge-has (fact f) = fact-has f
  edge-has (child {x = x} b l) = has_above x (born 𝓒 (individuals 𝓒) b).1 (wider l)
  edge-has (parent b l) = wider (turned l)

  -- THEOREM: whoever has the concept ∃S has an S-neighbour
  pub has-neighbour : (x : Element 𝓒) (S : SignedRole) → Belongs 𝓒 (individuals 𝓒) x → HasConcept 𝓒 (individuals 𝓒) x (Exists S)
      → (y : Element 𝓒) × Belongs 𝓒 (individuals 𝓒) y × ModelEdge 𝓒 (individuals 𝓒) x S y
  has-neighbour x S b h = let c : Belongs 𝓒 (individuals 𝓒) (x ▹ S) = grown b h in (x ▹ S, c, child c same)

  -- THEOREM: a role fact r(a, a) joins a to itself, by r, by its inverse and by all that follows from either
  pub self-edges : {r : RoleName} {a : Individual} → (r, a, a) ∈ 𝓒.role-facts → JoinedToItself 𝓒 r a
  self-edges {r} {a} m = record { role = ahead-edge; turned = behind-edge; above = λ S w. (by w, edge-back (by w)) }
    where
      ahead-edge : ModelEdge 𝓒 (individuals 𝓒) (root a) (forward r) (root a)
      ahead-edge = fact (ahead m same)

      behind-edge : ModelEdge 𝓒 (individuals 𝓒) (root a) (backward r) (root a)
      behind-edge = let e = edge-back ahead-edge in rw (inverse-forward r) at e

      by : {S : SignedRole} → RoleLe 𝓒 (forward r) S ⊎ RoleLe 𝓒 (backward r) S → ModelEdge 𝓒 (individuals 𝓒) (root a) S (root a)
      by (inl l) = edge-above ahead-edge l
      by (inr l) = edge-above behind-edge l

  -- THEOREM: and where R, or its inverse, follows from r, an exclusion of R from its inverse is broken
  pub self-clash : (R : SignedRole) → (R, inverse R) ∈ 𝓒.role-exclusions → (r : RoleName) (a : Individual) → (r, a, a) ∈ 𝓒.role-facts
      → RoleLe 𝓒 (forward r) R ⊎ RoleLe 𝓒 (forward r) (inverse R) → Contradiction 𝓒
  self-clash R x r a m (inl l) = let w = (self-edges m).above R (inl l) in at_pair (root a) (root a) R (inverse R) x w.0 w.1
  self-clash R x r a m (inr l) =
      let w = (self-edges m).above (inverse R) (inl l) in
      at_pair (root a) (root a) R (inverse R) x (rw (inverse-inverse R) at w.1) w.0

  -- THEOREM: every fact holds
  pub concept-fact-holds : (A : ConceptName) (a : Individual) → (A, a) ∈ 𝓒.concept-facts → HasConcept 𝓒 (individuals 𝓒) (root a) (Name A)
  concept-fact-holds A a m = (Name A, named m, same)

  pub role-fact-holds : (r : RoleName) (a b : Individual) → (r, a, b) ∈ 𝓒.role-facts → ModelEdge 𝓒 (individuals 𝓒) (root a) (forward r) (root b)
  role-fact-holds r a b m = fact (ahead m same)

  -- THEOREM: every rule is kept
  pub concept-rule-kept : (C D : Concept) → (C, D) ∈ 𝓒.concept-rules → (x : Element 𝓒) → HasConcept 𝓒 (individuals 𝓒) x C → HasConcept 𝓒 (individuals 𝓒) x D
  concept-rule-kept C D m x h = has_above x h (rule m)

  pub role-rule-kept : (R S : SignedRole) → (R, S) ∈ 𝓒.role-rules → (x y : Element 𝓒) → ModelEdge 𝓒 (individuals 𝓒) x R y → ModelEdge 𝓒 (individuals 𝓒) x S y
  role-rule-kept R S m x y e = edge-above e (rule m)
