-- What the steps of `fill` do: one fact, a table of facts, the seeds, and those that are
-- reached from them.
use Rattle.std.specs.Prelude.{ℕ, ◌+◌, ◌*◌, ◌/◌, ◌<◌, ◌≡◌, ◌↔◌, ◌⊎◌, IsTrue, Bool, List, length}
use Rattle.kinds.specs.Kinds.{most_names, most_roles, most_individuals, base, flip}
use Rattle.laws.specs.Gains.{OneOf}
use Rattle.meaning.specs.Lent.{concept_fact_width, role_fact_width}
use Rattle.tables.specs.declared.records.ConceptFact.{ConceptFact}
use Rattle.tables.specs.declared.records.RoleFact.{RoleFact}
use Rattle.tables.specs.Records.{read_concept_fact, read_role_fact}
use Rattle.sets.specs.Bits.{has, Has}
use Rattle.elements.specs.Concepts.{HasRows}

-- the members of the set n, in the row of a
abbrev pub InRow : ℕ → ℕ → ℕ → ℕ → Type 0
InRow a n i j = (i ≡ a) × IsTrue (has n j)

-- what one concept fact adds
pub record ByConcept (order : ℕ → ℕ → Bool) (fact : ConceptFact) (i j : ℕ) : Type 0 where
  pub has-row : fact.name.0 < most_names
  pub own : i ≡ fact.individual.0
  pub marked : IsTrue (order fact.name.0 j)

-- what one role fact adds
pub record ByRole (order : ℕ → ℕ → Bool) (fact : RoleFact) (i j : ℕ) : Type 0 where
  pub has-rows : HasRows fact.role fact.first fact.second
  pub marked : ((i ≡ fact.first.0) × IsTrue (order (base + 2 * fact.role.0) j))
      ⊎ ((i ≡ fact.second.0) × IsTrue (order (base + 2 * fact.role.0 + 1) j))

-- what record k of a table adds; what a table adds
abbrev pub ConceptHit : List ℕ → (ℕ → ℕ → Bool) → ℕ → ℕ → ℕ → Type 0
ConceptHit t order k = ByConcept order (read_concept_fact t k)

abbrev pub RoleHit : List ℕ → (ℕ → ℕ → Bool) → ℕ → ℕ → ℕ → Type 0
RoleHit t order k = ByRole order (read_role_fact t k)

abbrev pub ConceptListed : List ℕ → (ℕ → ℕ → Bool) → ℕ → ℕ → Type 0
ConceptListed t order = OneOf (ConceptHit t order) (length t / concept_fact_width)

abbrev pub RoleListed : List ℕ → (ℕ → ℕ → Bool) → ℕ → ℕ → Type 0
RoleListed t order = OneOf (RoleHit t order) (length t / role_fact_width)

-- the set n has the roles R where some individual has ∃R
pub record AreSeeds (concepts : ℕ → ℕ → Bool) (n : ℕ) : Type 0 where
  pub member : (R : ℕ) → Has n R
      ↔ ((R < 2 * most_roles) × (a : ℕ) × (a < most_individuals) × IsTrue (concepts a (base + R)))

-- R is in the set, or ∃S follows from what an element that ends by R has: ∃ of the inverse of R
pub data Reached (seeds : ℕ) (m : ℕ → ℕ → Bool) : ℕ → Type 0 where
  seed : (R : ℕ) → Has seeds R → Reached seeds m R
  child : (R S : ℕ) → S < 2 * most_roles → Reached seeds m R
      → IsTrue (m (base + flip R) (base + S)) → Reached seeds m S

-- r has exactly these
pub record IsReached (seeds : ℕ) (m : ℕ → ℕ → Bool) (r : ℕ) : Type 0 where
  pub member : (R : ℕ) → R < 2 * most_roles → Has r R ↔ Reached seeds m R

-- r has the roles S where ∃(inverse R) ≤ ∃S
pub record ChildRoles (m : ℕ → ℕ → Bool) (R r : ℕ) : Type 0 where
  pub member : (S : ℕ) → Has r S
      ↔ ((S < 2 * most_roles) × IsTrue (m (base + flip R) (base + S)))
