-- Which signed roles are generating: those by which some unnamed element ends, as the rows of the individuals
-- and the order tell it (docs/RULES.md, section 5).
use Rattle.std.specs.Prelude.{ℕ, ◌+◌, ◌*◌, ◌<◌, ◌↔◌, IsTrue, Bool}
use Rattle.kinds.specs.Kinds.{most_roles, most_individuals, base, flip}

-- some individual has ∃R, or ∃S follows from what an element that ends by R has: ∃ of the inverse
-- of R
pub data IsGenerating (concepts order : ℕ → ℕ → Bool) : ℕ → Type 0 where
  seed : (a R : ℕ) → a < most_individuals → R < 2 * most_roles → IsTrue (concepts a (base + R))
      → IsGenerating concepts order R
  child : (R S : ℕ) → S < 2 * most_roles → IsGenerating concepts order R
      → IsTrue (order (base + flip R) (base + S)) → IsGenerating concepts order S

-- the test m is true of exactly the generating roles
pub record AreGenerating (concepts order : ℕ → ℕ → Bool) (m : ℕ → Bool) : Type 0 where
  pub at : (R : ℕ) → R < 2 * most_roles → IsTrue (m R) ↔ IsGenerating concepts order R
