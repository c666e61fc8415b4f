-- What the ground of a collection is made of.
use Rattle.sets.specs.Bits.{has}
use Rattle.sets.specs.Rows.{concept_marks, role_marks}
use Rattle.tables.specs.declared.collection.Collection.{Collection}
use Rattle.tables.specs.Lists.{lists}
use Rattle.orders.specs.declared.roles.RoleOrder.{RoleOrder}
use Rattle.orders.specs.declared.concepts.ConceptOrder.{ConceptOrder}
use Rattle.orders.specs.Rows.{IsRoleOrder, IsConceptOrder}
use Rattle.elements.specs.declared.Elements.{Elements}
use Rattle.elements.specs.Concepts.{Concepts}
use Rattle.elements.specs.Generating.{AreGenerating}
use Rattle.index.specs.Works.{Passes}

-- the orders of a collection that passed its tests, and who has what
pub record IsGround (of : Collection) (roles : RoleOrder) (order : ConceptOrder)
    (elements : Elements) : Type 0 where
  pub passes : Passes of
  pub role_order : IsRoleOrder (lists of).role-rules (role_marks roles.above)
  pub concept_order : IsConceptOrder (lists of).concept-rules (lists of).role-rules
      (concept_marks order.above)
  pub individuals : Concepts (lists of).concept-facts (lists of).role-facts
      (concept_marks order.above) (concept_marks elements.individuals)
  pub generating : AreGenerating (concept_marks elements.individuals) (concept_marks order.above)
      (has elements.generating.0)
