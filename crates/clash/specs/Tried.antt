-- How far the edges of an individual are tried, one after another.
use Rattle.std.specs.Prelude.{ℕ, ◌≡◌, ◌<◌, ◌↔◌, IsTrue, Bool, List, length}
use Rattle.kinds.specs.Kinds.{most_individuals}
use Rattle.sets.specs.Bits.{role_width, Has}
use Rattle.sets.specs.Rows.{role_marks}
use Rattle.sets.specs.declared.roles.RoleSet.{RoleSet}
use Rattle.edges.specs.declared.FactEdge.{FactEdge}
use Rattle.clash.specs.Clashes.{BothSides, Marked, PairHas}
use Rattle.clash.specs.Conflicts.{AreMet, ByEdge}

-- the roles of each pair by the edges that were given, none of which has both sides of an exclusion
pub record Tried (table : List ℕ) (roles : ℕ → ℕ → Bool) (G : FactEdge → Type 0)
    (met : List RoleSet) : Type 0 where
  pub long : length met ≡ most_individuals
  pub marks : (b S : ℕ) → b < most_individuals → S < role_width
      → IsTrue (role_marks met b S) ↔ PairHas G roles b S
  pub whole : (b : ℕ) → b < most_individuals
      → BothSides role_width table (Marked (role_marks met b)) → ⊥

-- an edge that leads away from `from` leads away from a, by a role of the set
pub record IsOwn (among a from : ℕ) (edge : FactEdge) : Type 0 where
  pub same : a ≡ from
  pub member : Has among edge.role.0

-- what the edge gives its pair where O holds, and nothing where not
pub record ByEdgeWhere (O : Type 0) (roles : ℕ → ℕ → Bool) (edge : FactEdge) (b S : ℕ) : Type 0
  where
    pub on : O
    pub by : ByEdge roles edge b S

-- O holds, and some role of the edge's pair is excluded from its own
pub record MetWhere (O : Type 0) (excluded met : ℕ → ℕ → Bool) (edge : FactEdge) : Type 0 where
  pub on : O
  pub are : AreMet (excluded edge.role.0) (met edge.to.0)
