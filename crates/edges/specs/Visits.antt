-- The edges that an iterator has left, and what it gives next.
use Rattle.std.specs.Prelude.{◌≡◌, ◌<◌, List, [], ◌∷◌, Option, MatchOption}
use Rattle.kinds.specs.Kinds.{most_individuals}
use Rattle.sets.specs.Bits.{role_width}
use Rattle.edges.specs.declared.FactEdge.{FactEdge}

-- the first edge of those that were left; its role and its individual are in range
pub record GivesEdge (left : List FactEdge) (edge : FactEdge) (after : List FactEdge) : Type 0 where
  pub is : left ≡ edge ∷ after
  pub role : edge.role.0 < role_width
  pub to : edge.to.0 < most_individuals

-- or none was left
abbrev pub GivesNext : List FactEdge → Option FactEdge → List FactEdge → Type 0
GivesNext left r after =
    MatchOption r ((left ≡ []) × (after ≡ [])) (λ edge. GivesEdge left edge after)
