-- Leaving out the child that goes straight back changes no answer.
use Rattle.std.specs.Prelude.{IsTrue, ◌≡◌, refl, Bool, true, false, ◌↔◌}
use Rattle.kinds.specs.declared.Individual.{Individual}
use Rattle.kinds.specs.declared.State.{State}
use Rattle.kinds.specs.declared.SignedRole.{SignedRole}
use Rattle.kinds.specs.declared.Concept.{Concept}
use Rattle.kinds.specs.declared.Concept.TheVariants.{Name, Exists}
use Rattle.kinds.specs.Kinds.{inverse, inverse-inverse, IndividualDeclared}
use Rattle.laws.specs.Truth.{test-equals, test-false}
use Rattle.meaning.specs.Collection.{Collection, WellFormed}
use Rattle.meaning.specs.Orders.{RoleLe, ConceptLe}
use Rattle.theory.specs.Run.{stop, go, one, carry}
use Rattle.theory.specs.Tree.{root, ◌▹◌}
use Rattle.meaning.specs.Model.{HasConcept, Belongs, ModelEdge, individuals, Element, canonical, Contradiction}
use Rattle.meaning.specs.StraightBack.{GoesBack, Lean, bare, grown, LeanEdge, fact, child, parent, lean_model, LeanContradiction, at-element, at_pair, LeanYes}
use Rattle.meaning.proofs.ModelLaws.{born, has_above}
use Rattle.meaning.proofs.RoleTurned.{turn}
use Rattle.meaning.proofs.ModelWalk.{edge-declared}
use Rattle.meaning.specs.Question.{PathStep, along-role, at_name, PathIn, Yes}
use Rattle.meaning.specs.Leaving.{LeavesIn, Leaves}
use Rattle.meaning.proofs.LiteTests.{same_role, role_same}

module _ (𝓒 : Collection) where
  -- what is left was there before
  lean-belongs : {x : Element 𝓒} → Lean 𝓒 x → Belongs 𝓒 (individuals 𝓒) x
  lean-belongs (bare i) = Belongs.bare i
  lean-belongs (grown l h n) = Belongs.grown (lean-belongs l) h

  lean-edge : {x y : Element 𝓒} {S : SignedRole} → LeanEdge 𝓒 x S y → ModelEdge 𝓒 (individuals 𝓒) x S y
  lean-edge (fact f) = ModelEdge.fact f
  lean-edge (child l k) = ModelEdge.child (lean-belongs l) k
  lean-edge (parent l k) = ModelEdge.parent (lean-belongs l) k

  lean-going : {x y : Element 𝓒} {s t : State} → PathStep 𝓒 (lean_model 𝓒) x s y t → PathStep 𝓒 (canonical 𝓒) x s y t
  lean-going (along-role S e g) = along-role S e (lean-edge g)
  lean-going (at_name A e h) = at_name A e h

  lean-born : {x : Element 𝓒} {R : SignedRole} → Lean 𝓒 (x ▹ R) → Lean 𝓒 x × HasConcept 𝓒 (individuals 𝓒) x (Exists R)
  lean-born (grown l h n) = (l, h)

  -- where y ▹ R is folded to: the parent of y if R goes straight back, else y ▹ R itself
  data Next : Element 𝓒 → SignedRole → Element 𝓒 → Type 0 where
    on : {y : Element 𝓒} {R : SignedRole} → (GoesBack 𝓒 y R → ⊥) → Next y R (y ▹ R)
    back : {z : Element 𝓒} {Q : SignedRole} → Next (z ▹ Q) (inverse Q) z

  next : (y : Element 𝓒) (R : SignedRole) → (z : Element 𝓒) × Next y R z
  next (root a) R = (root a ▹ R, on (λ h. h))
  next (z ▹ Q) R = side (same_role R (inverse Q)) (test-equals same_role role_same R (inverse Q))
    where
      side : (b : Bool) → IsTrue b ↔ (R ≡ inverse Q) → (y : Element 𝓒) × Next (z ▹ Q) R y
      side true h = (z, rw (h.0 refl) back)
      side false h = (z ▹ Q ▹ R, on (test-false h refl))

  -- every child that goes straight back, taken out again; individuals stay
  abbrev fold : Element 𝓒 → Element 𝓒
  fold (root a) = root a
  fold (x ▹ R) = (next (fold x) R).0

  next-lean : {y z : Element 𝓒} {R : SignedRole} → Next y R z → Lean 𝓒 y → HasConcept 𝓒 (individuals 𝓒) y (Exists R) → Lean 𝓒 z
  next-lean (on n) l h = grown l h n
  next-lean back l h = (lean-born l).0

  -- gone back to z, the concepts of y ▹ R are those above ∃Q, which z has since z ▹ Q is its child
  next-has : {y z : Element 𝓒} {R : SignedRole} {D : Concept} → Next y R z → Lean 𝓒 y → ConceptLe 𝓒 (Exists (inverse R)) D → HasConcept 𝓒 (individuals 𝓒) z D
  next-has (on n) l k = k
  next-has (back {z = z} {Q = Q}) l k = has_above 𝓒 z (lean-born l).1 (rw (inverse-inverse Q) at k)

  -- gone back, the edge down to y ▹ R is the edge up to z, and the edge up is the edge down
  next-child : {y z : Element 𝓒} {R S : SignedRole} → Next y R z → Lean 𝓒 y → Lean 𝓒 z → RoleLe 𝓒 R S → LeanEdge 𝓒 y S z
  next-child (on n) l m k = child m k
  next-child {S = S} (back {z = z} {Q = Q}) l m k =
      let g : LeanEdge 𝓒 (z ▹ Q) (inverse (inverse S)) z = parent l (turn 𝓒 k) in
      rw (inverse-inverse S) at g

  next-parent : {y z : Element 𝓒} {R S : SignedRole} → Next y R z → Lean 𝓒 y → Lean 𝓒 z → RoleLe 𝓒 R S → LeanEdge 𝓒 z (inverse S) y
  next-parent (on n) l m k = parent m k
  next-parent {S = S} (back {Q = Q}) l m k = child l (turn 𝓒 k)

  -- an element that belongs is folded to one that is left and has all its concepts
  fold-lean : {x : Element 𝓒} → Belongs 𝓒 (individuals 𝓒) x → Lean 𝓒 (fold x) × ((D : Concept) → HasConcept 𝓒 (individuals 𝓒) x D → HasConcept 𝓒 (individuals 𝓒) (fold x) D)
  fold-lean (Belongs.bare i) = (bare i, λ D h. h)
  fold-lean (Belongs.grown {x = x} {R = R} b h) =
      let w = fold-lean b in
      let n = next (fold x) R in
      (next-lean n.1 w.0 (w.1 (Exists R) h), λ D k. next-has n.1 w.0 k)

  fold-edge : {x y : Element 𝓒} {S : SignedRole} → ModelEdge 𝓒 (individuals 𝓒) x S y → LeanEdge 𝓒 (fold x) S (fold y)
  fold-edge (ModelEdge.fact f) = fact f
  fold-edge (ModelEdge.child {x = x} {R = R} b k) = next-child (next (fold x) R).1 (fold-lean (born 𝓒 (individuals 𝓒) b).0).0 (fold-lean b).0 k
  fold-edge (ModelEdge.parent {x = x} {R = R} b k) = next-parent (next (fold x) R).1 (fold-lean (born 𝓒 (individuals 𝓒) b).0).0 (fold-lean b).0 k

  fold-contradiction : Contradiction 𝓒 → LeanContradiction 𝓒
  fold-contradiction (Contradiction.at-element x C D m b h k) = let w = fold-lean b in at-element (fold x) C D m w.0 (w.1 C h) (w.1 D k)
  fold-contradiction (Contradiction.at_pair x y R S m g h) = at_pair (fold x) (fold y) R S m (fold-edge g) (fold-edge h)

  lean-contradiction : LeanContradiction 𝓒 → Contradiction 𝓒
  lean-contradiction (at-element x C D m l h k) = Contradiction.at-element x C D m (lean-belongs l) h k
  lean-contradiction (at_pair x y R S m g h) = Contradiction.at_pair x y R S m (lean-edge g) (lean-edge h)

  -- THEOREM: without the children that go straight back, the same collections are contradictory
  pub straight-back-contradiction : Contradiction 𝓒 ↔ LeanContradiction 𝓒
  straight-back-contradiction = (fold-contradiction, lean-contradiction)

  module _ (ok : WellFormed 𝓒) where
    -- a path stays where elements belong, so that it can be folded throughout
    edge-belongs : {x y : Element 𝓒} {S : SignedRole} → ModelEdge 𝓒 (individuals 𝓒) x S y → Belongs 𝓒 (individuals 𝓒) y
    edge-belongs (ModelEdge.fact f) = Belongs.bare (edge-declared 𝓒 ok f).1
    edge-belongs (ModelEdge.child b k) = b
    edge-belongs (ModelEdge.parent b k) = (born 𝓒 (individuals 𝓒) b).0

    fold-path : {x y : Element 𝓒} {s t : State} → PathIn 𝓒 (canonical 𝓒) x s y t → Belongs 𝓒 (individuals 𝓒) x → PathIn 𝓒 (lean_model 𝓒) (fold x) s (fold y) t
    fold-path stop b = stop
    fold-path (go (along-role S e g) p) b = go (along-role S e (fold-edge g)) (fold-path p (edge-belongs g))
    fold-path (go (at_name A e h) p) b = go (at_name A e ((fold-lean b).1 (Name A) h)) (fold-path p b)

    -- THEOREM: without the children that go straight back, the same pairs are yes
    pub straight-back-yes : (a b : Individual) → IndividualDeclared 𝓒.counts a → Yes 𝓒 a b ↔ LeanYes 𝓒 a b
    straight-back-yes a b i = (
      λ y. (y.0, y.1, fold-path y.2 (Belongs.bare i)),
      λ y. (y.0, y.1, carry (λ x. x) (λ x y s t m. one (lean-going m)) y.2),
    )

    -- THEOREM: and a path leaves the same individuals
    pub straight-back-leaves : (a : Individual) → IndividualDeclared 𝓒.counts a → Leaves 𝓒 a ↔ LeavesIn 𝓒 (lean_model 𝓒) (root a)
    straight-back-leaves a i = (
      λ l. (l.0, l.1, fold l.2, fold-path l.3 (Belongs.bare i)),
      λ l. (l.0, l.1, l.2, carry (λ x. x) (λ x y s t m. one (lean-going m)) l.3),
    )
