-- A contradiction anywhere in the canonical model is found among individuals, living roles and pairs joined by a fact: by one of five finite tests.
use Rattle.std.specs.Prelude.{◌≡◌, refl, ℕ, zero, suc}
use Rattle.std.proofs.Common.{ap, arith}
use Rattle.kinds.specs.declared.Individual.{Individual}
use Rattle.kinds.specs.declared.SignedRole.{SignedRole}
use Rattle.kinds.specs.declared.Concept.{Concept}
use Rattle.kinds.specs.Kinds.{inverse, signed, IndividualDeclared, ConceptDeclared}
use Rattle.laws.specs.Member.{◌∈◌}
use Rattle.meaning.specs.Collection.{Collection, NumbersDeclared}
use Rattle.meaning.specs.Orders.{RoleLe}
use Rattle.theory.specs.Tree.{root, ◌▹◌}
use Rattle.meaning.specs.Model.{Belongs, ModelEdge, fact, child, parent, individuals, Element, Typed, named, first, second, FactEdge, Contradiction, at-element, at_pair}
use Rattle.meaning.specs.Clash.{Alive, sprouts, grows, Clash, individual-clash, unnamed-clash, fact-clash, down-clash, up-clash}
use Rattle.meaning.proofs.ModelLaws.{born}

module _ (𝓒 : Collection) where
  living : (x : Element 𝓒) (R : SignedRole) → Belongs 𝓒 (individuals 𝓒) (x ▹ R) → Alive 𝓒 R
  living (root a) R b = sprouts a R (born 𝓒 (individuals 𝓒) b).1
  living (x ▹ Q) R b = grows Q R (living x Q (born 𝓒 (individuals 𝓒) b).0) (born 𝓒 (individuals 𝓒) b).1

  -- an element and its child are joined by that child's edge alone
  abbrev depth : Element 𝓒 → ℕ
  depth (root a) = zero
  depth (x ▹ R) = suc (depth x)

  abbrev pub last : Element 𝓒 → SignedRole
  last (root a) = signed 0
  last (x ▹ R) = R

  down-role : {x y : Element 𝓒} {S : SignedRole} → ModelEdge 𝓒 (individuals 𝓒) x S y → (Q : SignedRole) → y ≡ x ▹ Q → RoleLe 𝓒 Q S
  down-role (fact f) Q e = absurd (omega (arith, ap depth e))
  down-role (child {R = R} b l) Q e = rw (← ap last e) l
  down-role (parent b l) Q e = absurd (omega (arith, ap depth e))

  up-role : {x y : Element 𝓒} {S : SignedRole} → ModelEdge 𝓒 (individuals 𝓒) x S y → (Q : SignedRole) → x ≡ y ▹ Q → (U : SignedRole) × (inverse U ≡ S) × RoleLe 𝓒 Q U
  up-role (fact f) Q e = absurd (omega (arith, ap depth e))
  up-role (child b l) Q e = absurd (omega (arith, ap depth e))
  up-role (parent {S = S} b l) Q e = (S, refl, rw (← ap last e) l)

  flat-role : {x y : Element 𝓒} {S : SignedRole} → ModelEdge 𝓒 (individuals 𝓒) x S y → (a b : Individual) → x ≡ root a → y ≡ root b → FactEdge 𝓒 a S b
  flat-role (fact {a = c} {b = d} f) a b e g =
      let p : c ≡ a = cc in
      let q : d ≡ b = cc in
      rw (p, q) at f
  flat-role (child c l) a b e g = absurd (omega (arith, ap depth g))
  flat-role (parent c l) a b e g = absurd (omega (arith, ap depth e))

  find-pair : {x y : Element 𝓒} {R S : SignedRole} → (R, S) ∈ 𝓒.role-exclusions → ModelEdge 𝓒 (individuals 𝓒) x R y → ModelEdge 𝓒 (individuals 𝓒) x S y → Clash 𝓒
  find-pair m (fact {a = a} {b = b} f) g = fact-clash a b _ _ m f (flat-role g a b refl refl)
  find-pair {S = S} m (child {x = x} {R = Q} {S = R} c l) g = down-clash Q R S m (living x Q c) l (down-role g Q refl)
  find-pair m (parent {x = x} {R = Q} {S = R} c l) g =
      let w = up-role g Q refl in
      up-clash Q R w.0 (rw w.1 m) (living x Q c) l w.2

  -- THEOREM: a contradiction is a clash
  pub find : Contradiction 𝓒 → Clash 𝓒
  find (at-element (root a) C D m b h k) = individual-clash a C D m h k
  find (at-element (x ▹ R) C D m b h k) = unnamed-clash R C D m (living x R b) h k
  find (at_pair x y R S m g h) = find-pair m g h

  module _ (ok : NumbersDeclared 𝓒) where
    -- whoever has a concept has a fact, and is declared
    pub typed-declared : {a : Individual} {C : Concept} → Typed 𝓒 a C → IndividualDeclared 𝓒.counts a
    typed-declared (named {A = A} {a = a} m) = (ok.concept-facts (A, a) m).1
    typed-declared (first {r = r} {a = a} {b = b} m) = (ok.role-facts (r, a, b) m).1
    typed-declared (second {r = r} {a = a} {b = b} m) = (ok.role-facts (r, a, b) m).2

    -- and the concept is valid
    pub typed-valid : {a : Individual} {C : Concept} → Typed 𝓒 a C → ConceptDeclared 𝓒.counts C
    typed-valid (named {A = A} {a = a} m) = (ok.concept-facts (A, a) m).0
    typed-valid (first {r = r} {a = a} {b = b} m) = let k = (ok.role-facts (r, a, b) m).0 in omega arith
    typed-valid (second {r = r} {a = a} {b = b} m) = let k = (ok.role-facts (r, a, b) m).0 in omega arith
