-- What the rows of the individuals have: the concepts that follow, in the order, from what the
-- facts say of an individual (docs/RULES.md, section 5).
use Rattle.std.specs.Prelude.{◌↔◌, IsTrue, Bool, List, ℕ, ◌+◌, ◌*◌, ◌<◌}
use Rattle.kinds.specs.declared.ConceptName.{ConceptName}
use Rattle.kinds.specs.declared.RoleName.{RoleName}
use Rattle.kinds.specs.declared.Individual.{Individual}
use Rattle.kinds.specs.Kinds.{most_names, most_roles, most_individuals, base, individual}
use Rattle.laws.specs.Member.{◌∈◌}
use Rattle.meaning.specs.Lent.{records, concept_fact_width, role_fact_width, concept_fact, role_fact}
use Rattle.meaning.specs.Layout.{concept_numbers}
use Rattle.sets.specs.Bits.{Has}

-- the numbers of a role fact that have a row
pub record HasRows (r : RoleName) (a b : Individual) : Type 0 where
  pub role : r.0 < most_roles
  pub first : a.0 < most_individuals
  pub second : b.0 < most_individuals

-- the facts show the concept B of a: by a name of a, or by a role fact that has a as its first or
-- its second individual; an order relates concepts by their numbers
pub data Shown (cf rf : List ℕ) (order : ℕ → ℕ → Bool) (a : Individual) (B : ℕ) : Type 0 where
  named : (A : ConceptName) → (A, a) ∈ records concept_fact_width concept_fact cf
      → A.0 < most_names → IsTrue (order A.0 B) → Shown cf rf order a B
  first : (r : RoleName) (b : Individual) → (r, a, b) ∈ records role_fact_width role_fact rf
      → HasRows r a b → IsTrue (order (base + 2 * r.0) B) → Shown cf rf order a B
  second : (r : RoleName) (b : Individual) → (r, b, a) ∈ records role_fact_width role_fact rf
      → HasRows r b a → IsTrue (order (base + 2 * r.0 + 1) B) → Shown cf rf order a B

-- the marks are exactly these
pub record Concepts (cf rf : List ℕ) (order m : ℕ → ℕ → Bool) : Type 0 where
  pub at : (a B : ℕ) → a < most_individuals → B < concept_numbers
      → IsTrue (m a B) ↔ Shown cf rf order (individual a) B

-- j is in the set n exactly when some number below h is related to it
pub record Gathers (h : ℕ) (m : ℕ → ℕ → Bool) (n : ℕ) : Type 0 where
  pub member : (j : ℕ) → Has n j ↔ ((i : ℕ) × (i < h) × IsTrue (m i j))
