-- What the two orders say: a test of each pair of numbers, true exactly where one follows from the
-- other by the rules of a table (docs/RULES.md, section 4).
use Rattle.std.specs.Prelude.{Bool, List, ℕ, ◌*◌, ◌<◌, ◌≡◌, ◌↔◌, IsTrue, nat_lt}
use Rattle.kinds.specs.declared.SignedRole.{SignedRole}
use Rattle.kinds.specs.declared.Concept.{Concept}
use Rattle.kinds.specs.Kinds.{most_roles, signed, number_of, concept_of}
use Rattle.laws.specs.Search.{and}
use Rattle.laws.specs.Select.{select}
use Rattle.meaning.specs.Orders.{RoleFollows, ConceptFollows}
use Rattle.meaning.specs.Lent.{records, rule_width, concept_pair, role_pair}
use Rattle.meaning.specs.Layout.{concept_numbers}

-- the rules of a table whose numbers have a row; of declared numbers these are all rules
abbrev pub role_fits : SignedRole × SignedRole → Bool
role_fits r = and (nat_lt r.0.0 (2 * most_roles)) (nat_lt r.1.0 (2 * most_roles))

unfoldable pub role_rules : List ℕ → List (SignedRole × SignedRole)
role_rules t = select (records rule_width role_pair t) role_fits

abbrev pub concept_fits : Concept × Concept → Bool
concept_fits r =
    and (nat_lt (number_of r.0) concept_numbers) (nat_lt (number_of r.1) concept_numbers)

unfoldable pub concept_rules : List ℕ → List (Concept × Concept)
concept_rules t = select (records rule_width concept_pair t) concept_fits

-- R ≤ S by the rules of a table
pub record IsRoleOrder (rules : List ℕ) (m : ℕ → ℕ → Bool) : Type 0 where
  pub at : (i j : ℕ) → i < 2 * most_roles → j < 2 * most_roles
      → IsTrue (m i j) ↔ RoleFollows (role_rules rules) (signed i) (signed j)

-- C ≤ D by the rules of two tables
pub record IsConceptOrder (rules roles : List ℕ) (m : ℕ → ℕ → Bool) : Type 0 where
  pub at : (i j : ℕ) → i < concept_numbers → j < concept_numbers
      → IsTrue (m i j)
      ↔ ConceptFollows (concept_rules rules) (role_rules roles) (concept_of i) (concept_of j)

-- r relates j to i where m relates i to j
pub record IsTransposed (n : ℕ) (m r : ℕ → ℕ → Bool) : Type 0 where
  pub at : (i j : ℕ) → i < n → j < n → r i j ≡ m j i
