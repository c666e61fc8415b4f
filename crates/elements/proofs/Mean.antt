-- What the rows mean to a caller: of a collection whose numbers are declared they are the concepts of its individuals.
use Rattle.std.specs.Prelude.{ℕ, ◌+◌, ◌*◌, ◌≡◌, ◌↔◌, IsTrue, Bool}
use native.Mathlib.Omega.{arith}
use Rattle.kinds.specs.declared.ConceptName.{ConceptName}
use Rattle.kinds.specs.declared.RoleName.{RoleName}
use Rattle.kinds.specs.declared.Individual.{Individual}
use Rattle.kinds.specs.declared.Concept.{Concept}
use Rattle.kinds.specs.declared.Concept.TheVariants.{Name, Exists}
use Rattle.kinds.specs.declared.Counts.{Counts}
use Rattle.kinds.specs.Kinds.{base, number_of, forward, backward, CountsFit, NameDeclared, RoleDeclared, IndividualDeclared}
use Rattle.kinds.specs.Kinds.{ConceptDeclared}
use Rattle.laws.specs.Member.{◌∈◌}
use Rattle.laws.specs.Truth.{test-same}
use Rattle.meaning.specs.Collection.{NumbersDeclared}
use Rattle.meaning.specs.Lent.{Tables, collection}
use Rattle.meaning.specs.Model as model
use Rattle.meaning.specs.Model.{Typed, IndividualHas}
use Rattle.meaning.specs.Orders.{ConceptLe}
use Rattle.orders.specs.Rows.{IsConceptOrder}
use Rattle.orders.proofs.Mean.{concept-below, concept-marks-mean}
use Rattle.elements.specs.Concepts.{HasRows, Shown, named, first, second, Concepts}

module _ (c : Counts) (t : Tables) (fit : CountsFit c) (ok : NumbersDeclared (collection c t)) where
  -- each role fact has its rows
  pub has-rows : (r : RoleName) (a b : Individual) → (r, a, b) ∈ (collection c t).role-facts → HasRows r a b
  has-rows r a b m =
      let d = ok.role-facts (r, a, b) m in
      record {
        role = omega (arith, d.0, fit.roles);
        first = omega (arith, d.1, fit.individuals);
        second = omega
            (arith, d.2, fit.individuals);
      }

  -- whoever a mark shows a concept of has a fact, and is declared
  pub shown-declared : {order : ℕ → ℕ → Bool} {a : Individual} {B : ℕ} → Shown t.concept-facts t.role-facts order a B
      → IndividualDeclared c a
  shown-declared {a = a} (named A m l p) = (ok.concept-facts (A, a) m).1
  shown-declared {a = a} (first r b m l p) = (ok.role-facts (r, a, b) m).1
  shown-declared {a = a} (second r b m l p) = (ok.role-facts (r, b, a) m).2

  module _ (order : ℕ → ℕ → Bool) (q : IsConceptOrder t.concept-rules t.role-rules order) (B : Concept) (hB : ConceptDeclared c B) where
    -- the marks in the three rows that a fact puts in
    by_name : (A : ConceptName) → NameDeclared c A → IsTrue (order A.0 (number_of B)) ↔ (ConceptLe (collection c t) (Name A) B)
    unfolding number_of
    by_name A h = concept-marks-mean c t fit ok q (Name A) B h hB

    ahead : (r : RoleName) → RoleDeclared c r
        → IsTrue (order (base + 2 * r.0) (number_of B)) ↔ (ConceptLe (collection c t) (Exists (forward r)) B)
    unfolding number_of
    ahead r h = concept-marks-mean c t fit ok q (Exists (forward r)) B (omega arith) hB

    back : (r : RoleName) → RoleDeclared c r
        → IsTrue (order (base + 2 * r.0 + 1) (number_of B)) ↔ (ConceptLe (collection c t) (Exists (backward r)) B)
    unfolding number_of
    back r h =
        let e : base + 2 * r.0 + 1 ≡ base + (2 * r.0 + 1) = omega arith in
        rw e (concept-marks-mean c t fit ok q (Exists (backward r)) B (omega arith) hB)

    shown→has : (a : Individual) → Shown t.concept-facts t.role-facts order a (number_of B) → IndividualHas (collection c t) a B
    shown→has a (named A m l p) = (Name A, model.named m, (by_name A (ok.concept-facts (A, a) m).0).0 p)
    shown→has a (first r b m l p) = (Exists (forward r), model.first m, (ahead r (ok.role-facts (r, a, b) m).0).0 p)
    shown→has a (second r b m l p) = (Exists (backward r), model.second m, (back r (ok.role-facts (r, b, a) m).0).0 p)

    typed→shown : (a : Individual) (C : Concept) → Typed (collection c t) a C → ConceptLe (collection c t) C B
        → Shown t.concept-facts t.role-facts order a (number_of B)
    typed→shown a C (model.named {A = A} m) le =
        let d = (ok.concept-facts (A, a) m).0 in
        named A m (omega (arith, d, fit.names)) ((by_name A d).1 le)
    typed→shown a C (model.first {r = r} {b = b} m) le = first r b m (has-rows r a b m) ((ahead r (ok.role-facts (r, a, b) m).0).1 le)
    typed→shown b C (model.second {r = r} {a = a} m) le = second r a m (has-rows r a b m) ((back r (ok.role-facts (r, a, b) m).0).1 le)

    -- THEOREM: the row of a declared individual marks its concepts
    pub concepts-mean : {r : ℕ → ℕ → Bool} → Concepts t.concept-facts t.role-facts order r → (a : Individual) → IndividualDeclared c a
        → IsTrue (r a.0 (number_of B)) ↔ (IndividualHas (collection c t) a B)
    concepts-mean h a l =
        test-same (h.at a.0 (number_of B) (omega (arith, fit.individuals)) (concept-below c t fit ok B hB)) (shown→has a)
        (λ w. typed→shown a w.0 w.1 w.2)
