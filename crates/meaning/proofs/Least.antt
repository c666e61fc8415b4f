-- R ≤ S and C ≤ D are the smallest relations that keep the rules: what they hold, each such relation holds.
use Rattle.kinds.specs.declared.SignedRole.{SignedRole}
use Rattle.kinds.specs.declared.Concept.{Concept}
use Rattle.meaning.specs.Collection.{Collection}
use Rattle.meaning.specs.Orders.{RoleLe, ConceptLe, same, then, rule, turned, wider}
use Rattle.meaning.specs.LawsOfOrders.{OrdersRoles, OrdersConcepts}

module _ (𝓒 : Collection) (f : SignedRole → SignedRole → Type 0) (keeps : OrdersRoles 𝓒 f) where
  pub role-least : {R S : SignedRole} → RoleLe 𝓒 R S → f R S
  role-least same = keeps.reflexive _
  role-least (then l m) = keeps.transitive _ _ _ (role-least l) (role-least m)
  role-least (rule m) = keeps.rules _ _ m
  role-least (turned l) = keeps.inverses _ _ (role-least l)

module _ (𝓒 : Collection) (f : Concept → Concept → Type 0) (keeps : OrdersConcepts 𝓒 f) where
  pub concept-least : {C D : Concept} → ConceptLe 𝓒 C D → f C D
  concept-least same = keeps.reflexive _
  concept-least (then l m) = keeps.transitive _ _ _ (concept-least l) (concept-least m)
  concept-least (rule m) = keeps.rules _ _ m
  concept-least (wider l) = keeps.neighbours _ _ l
