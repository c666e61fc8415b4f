-- The orders of a collection's tables are its two orders, row by row.
use Rattle.std.specs.Prelude.{List}
use Rattle.kinds.specs.declared.Counts.{Counts}
use Rattle.kinds.specs.Kinds.{CountsFit}
use Rattle.meaning.specs.Collection.{NumbersDeclared}
use Rattle.meaning.specs.Lent.{Tables, collection}
use Rattle.sets.specs.Bits.{concept_width}
use Rattle.sets.specs.Rows.{concept_marks, role_marks}
use Rattle.sets.specs.declared.concepts.ConceptSet.{ConceptSet}
use Rattle.sets.specs.declared.roles.RoleSet.{RoleSet}
use Rattle.orders.specs.Rows.{IsRoleOrder, IsConceptOrder, IsTransposed}
use Rattle.orders.proofs.Mean.{all-role-rules, all-concept-rules}
use Rattle.rules.specs.RowsOf.{AreAbove, AreBelow}
use Rattle.sets.proofs.RowLaws.{has_fact}

module _ (c : Counts) (t : Tables) (fit : CountsFit c) (ok : NumbersDeclared (collection c t)) where
  -- THEOREM: the rows of the role order that `orders` makes are the collection's role order
  pub role_order : (roles : List RoleSet) → IsRoleOrder t.role-rules (role_marks roles) → AreAbove (collection c t) roles
  role_order roles o = record {
    roles = λ R S hR hS.
        let x = rw (all-role-rules c t fit ok) at (o.at R S hR hS) in
        let y = has_fact _ S in
        (λ h. x.0 (y.1 h), λ l. y.0 (x.1 l));
  }

  -- THEOREM: the transposed rows of the concept order are the collection's, read from above
  pub concept_order : (above below : List ConceptSet) → IsConceptOrder t.concept-rules t.role-rules (concept_marks above)
      → IsTransposed concept_width (concept_marks above) (concept_marks below) → AreBelow (collection c t) below
  concept_order above below q u = record {
    concepts = λ D C hD hC.
        let x = rw (all-concept-rules c t fit ok, all-role-rules c t fit ok) at (q.at C D hC hD) in
        let y = has_fact _ C in
        let e = u.at D C hD hC in
        (λ h. x.0 (rw e at (y.1 h)), λ l. y.0 (rw (← e) at (x.1 l)));
  }
