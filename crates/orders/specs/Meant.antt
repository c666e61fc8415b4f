-- What the marks of the two orders say of a collection (docs/RULES.md, section 4).
use Rattle.std.specs.Prelude.{ℕ, ◌↔◌, IsTrue, Bool}
use Rattle.kinds.specs.declared.SignedRole.{SignedRole}
use Rattle.kinds.specs.declared.Concept.{Concept}
use Rattle.kinds.specs.declared.Counts.{Counts}
use Rattle.kinds.specs.Kinds.{number_of, SignedDeclared, ConceptDeclared}
use Rattle.meaning.specs.Lent.{Tables, collection}
use Rattle.meaning.specs.Orders.{RoleLe, ConceptLe}
use Rattle.orders.specs.Rows.{IsRoleOrder, IsConceptOrder}

module _ (c : Counts) (t : Tables) where
  -- the order of the role rules marks two declared roles exactly where R ≤ S
  abbrev pub RoleMarksMean : Type 0
  RoleMarksMean =
      (m : ℕ → ℕ → Bool) → IsRoleOrder t.role-rules m
      → (R S : SignedRole) → SignedDeclared c R → SignedDeclared c S
      → IsTrue (m R.0 S.0) ↔ RoleLe (collection c t) R S

  -- the order of both kinds of rule marks two declared concepts exactly where C ≤ D
  abbrev pub ConceptMarksMean : Type 0
  ConceptMarksMean =
      (m : ℕ → ℕ → Bool) → IsConceptOrder t.concept-rules t.role-rules m
      → (C D : Concept) → ConceptDeclared c C → ConceptDeclared c D
      → IsTrue (m (number_of C) (number_of D)) ↔ ConceptLe (collection c t) C D
