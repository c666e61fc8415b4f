-- What the answer means to a caller: of a collection whose numbers are declared, the generating roles are those alive in its canonical
-- model.
use Rattle.std.specs.Prelude.{ℕ, ◌+◌, ◌*◌, ◌<◌, ◌≡◌, ◌↔◌, IsTrue, Bool, true}
use Rattle.laws.specs.Truth.{test-same}
use native.Mathlib.Omega.{arith}
use Rattle.kinds.specs.declared.SignedRole.{SignedRole}
use Rattle.kinds.specs.declared.Concept.{Concept}
use Rattle.kinds.specs.declared.Concept.TheVariants.{Name, Exists}
use Rattle.kinds.specs.declared.Counts.{Counts}
use Rattle.kinds.specs.Kinds.{most_roles, base, number_of, signed, individual, forward, backward, inverse, inverse-declared}
use Rattle.kinds.specs.Kinds.{concept-number, role-concept, CountsFit, SignedDeclared, IndividualDeclared, ConceptDeclared}
use Rattle.meaning.specs.Collection.{NumbersDeclared}
use Rattle.meaning.specs.Lent.{Tables, collection}
use Rattle.meaning.specs.Orders.{ConceptLe}
use Rattle.meaning.specs.Clash as clash
use Rattle.meaning.specs.Clash.{Alive}
use Rattle.meaning.proofs.Clash.{typed-declared, typed-valid}
use Rattle.meaning.proofs.Declared.{concept-declared}
use Rattle.meaning.proofs.ModelLaws.{born}
use Rattle.theory.specs.Tree.{root, ◌▹◌}
use Rattle.meaning.specs.Model.{Belongs, bare, grown, individuals, Element}
use Rattle.orders.specs.Rows.{IsConceptOrder}
use Rattle.orders.proofs.Mean.{role-below, concept-below, all-role-rules, all-concept-rules, concept-marks-mean}
use Rattle.elements.specs.Concepts.{Shown, named, first, second, Concepts}
use Rattle.elements.proofs.Mean.{concepts-mean}
use Rattle.elements.specs.Generating.{IsGenerating, seed, child, AreGenerating}

module _ (c : Counts) (t : Tables) (fit : CountsFit c) (ok : NumbersDeclared (collection c t)) (order concepts : ℕ → ℕ → Bool)
    (q : IsConceptOrder t.concept-rules t.role-rules order) (h : Concepts t.concept-facts t.role-facts order concepts) where
  -- the row of a declared concept marks only declared roles
  marked-declared : (C : Concept) (S : ℕ) → ConceptDeclared c C → S < 2 * most_roles → order (number_of C) (base + S) ≡ true
      → SignedDeclared c (signed S)
  marked-declared C S hC hS p =
      let f : ConceptLe (collection c t) C (Exists (signed S)) =
      rw (all-concept-rules c t fit ok, all-role-rules c t fit ok, concept-number c fit.names C hC, role-concept S) at
      ((q.at (number_of C) (base + S) (concept-below c t fit ok C hC) (omega arith)).0 p) in
      concept-declared (collection c t) ok f hC

  -- so does the row of an individual, and it is that of a declared one
  shown-declared : (a R : ℕ) → R < 2 * most_roles → Shown t.concept-facts t.role-facts order (individual a) (base + R)
      → IndividualDeclared c (individual a) × SignedDeclared c (signed R)
  unfolding number_of
  shown-declared a R hR (named A m l p) = let d = ok.concept-facts (A, individual a) m in (d.1, marked-declared (Name A) R d.0 hR p)
  shown-declared a R hR (first r b m l p) =
      let d = ok.role-facts (r, individual a, b) m in
      let k = d.0 in
      (d.1, marked-declared (Exists (forward r)) R (omega arith) hR p)
  shown-declared a R hR (second r b m l p) =
      let d = ok.role-facts (r, b, individual a) m in
      let k = d.0 in
      let e : base + 2 * r.0 + 1 ≡ base + (2 * r.0 + 1) = omega arith in
      (d.2, marked-declared (Exists (backward r)) R (omega arith) hR (rw e at p))

  generating→alive : {n : ℕ} → IsGenerating concepts order n → SignedDeclared c (signed n) × Alive (collection c t) (signed n)
  unfolding number_of inverse
  generating→alive (seed a R ha hR p) =
      let d = shown-declared a R hR ((h.at a (base + R) ha (omega arith)).0 p) in
      (d.1, clash.sprouts (individual a) (signed R) ((concepts-mean c t fit ok order q (Exists (signed R)) d.1 h (individual a) d.0).0 p))
  generating→alive (child R S hS l p) =
      let w = generating→alive l in
      let hR = inverse-declared c (signed R) w.0 in
      let d = marked-declared (Exists (inverse (signed R))) S hR hS p in (
        d,
        clash.grows (signed R) (signed S) w.1 ((concept-marks-mean c t fit ok q (Exists (inverse (signed R)))
            (Exists (signed S)) hR d).0 p),
      )

  alive→generating : {R : SignedRole} → Alive (collection c t) R → SignedDeclared c R × IsGenerating concepts order R.0
  unfolding number_of inverse
  alive→generating (clash.sprouts a R w) =
      let d : SignedDeclared c R = concept-declared (collection c t) ok w.2 (typed-valid (collection c t) ok w.1) in
      let la = typed-declared (collection c t) ok w.1 in (
        d,
        seed a.0 R.0 (omega (arith, fit.individuals)) (role-below c t fit ok R d)
            ((concepts-mean c t fit ok order q (Exists R) d h a la).1 w),
      )
  alive→generating (clash.grows R S l k) =
      let w = alive→generating l in
      let hR = inverse-declared c R w.0 in
      let d : SignedDeclared c S = concept-declared (collection c t) ok k hR in
      (d, child R.0 S.0 (role-below c t fit ok S d) w.1 ((concept-marks-mean c t fit ok q (Exists (inverse R)) (Exists S) hR d).1 k))

  -- THEOREM: a signed role is generating in the rows exactly when it is alive in the canonical model
  pub generating-mean : (R : SignedRole) → IsGenerating concepts order R.0 ↔ Alive (collection c t) R
  generating-mean R = (λ l. (generating→alive l).1, λ l. (alive→generating l).1)

  -- and exactly when some unnamed element of the model ends by it
  belongs→alive : (x : Element (collection c t)) (R : SignedRole) → Belongs (collection c t) (individuals (collection c t)) (x ▹ R)
      → Alive (collection c t) R
  belongs→alive (root a) R b = clash.sprouts a R (born (collection c t) (individuals (collection c t)) b).1
  belongs→alive (x ▹ Q) R b =
      let w = born (collection c t) (individuals (collection c t)) b in
      clash.grows Q R (belongs→alive x Q w.0) w.1

  alive→belongs : {R : SignedRole} → Alive (collection c t) R
      → (x : Element (collection c t)) × Belongs (collection c t) (individuals (collection c t)) (x ▹ R)
  alive→belongs (clash.sprouts a R w) = (root a, grown (bare (typed-declared (collection c t) ok w.1)) w)
  alive→belongs (clash.grows R S l k) = let w = alive→belongs l in (w.0 ▹ R, grown w.1 k)

  -- THEOREM: the set of generating roles has a declared role exactly when some unnamed element of the canonical model ends by it
  pub ends-mean : {m : ℕ → Bool} → AreGenerating concepts order m → (R : SignedRole) → SignedDeclared c R
      → IsTrue (m R.0) ↔ ((x : Element (collection c t)) × Belongs (collection c t) (individuals (collection c t)) (x ▹ R))
  ends-mean l R h = test-same (l.at R.0 (role-below c t fit ok R h)) (λ p. alive→belongs ((generating-mean R).0 p))
      (λ w. (generating-mean R).1 (belongs→alive w.0 R w.1))

-- the number of a generating role is in range
pub generating-below : {concepts order : ℕ → ℕ → Bool} {R : ℕ} → IsGenerating concepts order R → R < 2 * most_roles
generating-below (seed a R ha hR p) = hR
generating-below (child R S hS l p) = hS
