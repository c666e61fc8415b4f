-- What the marks mean to a caller: of a collection whose numbers are declared they are its two orders.
use Rattle.std.specs.Prelude.{ℕ, ◌*◌, ◌<◌, ◌≡◌, ◌↔◌, IsTrue, Bool}
use native.Mathlib.Omega.{arith}
use Rattle.kinds.specs.declared.SignedRole.{SignedRole}
use Rattle.kinds.specs.declared.Concept.{Concept}
use Rattle.kinds.specs.declared.Concept.TheVariants.{Name, Exists}
use Rattle.kinds.specs.declared.Counts.{Counts}
use Rattle.kinds.specs.Kinds.{most_roles, signed, number_of, concept_of, concept-number, CountsFit, SignedDeclared, ConceptDeclared}
use Rattle.meaning.specs.Collection.{NumbersDeclared}
use Rattle.meaning.specs.Lent.{Tables, collection, records, rule_width, role_pair, concept_pair}
use Rattle.meaning.specs.Layout.{concept_numbers}
use Rattle.meaning.specs.Orders.{RoleLe, ConceptLe}
use Rattle.orders.specs.Rows.{role_rules, concept_rules, IsRoleOrder, IsConceptOrder}
use Rattle.orders.proofs.Table.{rules-all}

module _ (c : Counts) (t : Tables) (fit : CountsFit c) (ok : NumbersDeclared (collection c t)) where
  pub role-below : (R : SignedRole) → SignedDeclared c R → R.0 < 2 * most_roles
  role-below R h = let l = fit.roles in omega arith

  pub concept-below : (C : Concept) → ConceptDeclared c C → number_of C < concept_numbers
  unfolding number_of
  concept-below (Name A) h = let l = fit.names in omega arith
  concept-below (Exists R) h = let l = fit.roles in omega arith

  -- each rule has its row
  pub all-role-rules : role_rules t.role-rules ≡ records rule_width role_pair t.role-rules
  unfolding role_rules
  all-role-rules =
      rules-all signed (λ R. R.0) (2 * most_roles) t.role-rules
      (λ r m. let d = ok.role-rules r m in (role-below r.0 d.0, role-below r.1 d.1))

  pub all-concept-rules : concept_rules t.concept-rules ≡ records rule_width concept_pair t.concept-rules
  unfolding concept_rules
  all-concept-rules =
      rules-all concept_of number_of concept_numbers t.concept-rules (λ r m.
      let d = ok.concept-rules r m in
      (concept-below r.0 d.0, concept-below r.1 d.1))

  pub role-marks-mean : {m : ℕ → ℕ → Bool} → IsRoleOrder t.role-rules m → (R S : SignedRole) → SignedDeclared c R → SignedDeclared c S
      → IsTrue (m R.0 S.0) ↔ RoleLe (collection c t) R S
  role-marks-mean o R S hR hS = rw all-role-rules at (o.at R.0 S.0 (role-below R hR) (role-below S hS))

  pub concept-marks-mean : {m : ℕ → ℕ → Bool} → IsConceptOrder t.concept-rules t.role-rules m → (C D : Concept) → ConceptDeclared c C
      → ConceptDeclared c D
      → IsTrue (m (number_of C) (number_of D)) ↔ ConceptLe (collection c t) C D
  concept-marks-mean o C D hC hD =
      rw (all-concept-rules, all-role-rules, concept-number c fit.names C hC, concept-number c fit.names D hD)
      at (o.at (number_of C) (number_of D) (concept-below C hC) (concept-below D hD))
