-- The roles on both sides of role rules, and which marks they leave out of a matrix.
use Rattle.std.specs.Prelude.{ℕ, ◌<◌, ◌≡◌, ◌≢◌, ◌↔◌, Bool, IsTrue, List}
use Rattle.orders.specs.Marks.{turn}
use Rattle.sets.specs.Bits.{Has, role_width}
use Rattle.sets.specs.Rows.{role_marks}
use Rattle.sets.specs.declared.roles.RoleSet.{RoleSet}

-- r has the members of n, and the role k and its inverse where they are in range
pub record InsertsBoth (n k r : ℕ) : Type 0 where
  pub kept : (i : ℕ) → Has n i → Has r i
  pub own : k < role_width → Has r k
  pub inverse : k < role_width → Has r (turn k)

-- each pair of E leads from a member of the one set to a member of the other
pub record Leads (left right : ℕ) (E : ℕ → ℕ → Type 0) : Type 0 where
  pub from : (i j : ℕ) → i < role_width → j < role_width → E i j → Has left i
  pub to : (i j : ℕ) → i < role_width → j < role_width → E i j → Has right j

-- the marks of two different roles
abbrev pub OffDiagonal : (ℕ → ℕ → Bool) → ℕ → ℕ → Type 0
OffDiagonal m i j = IsTrue (m i j) × (i ≢ j)

-- the row of a role that is not in the set marks that role alone
pub record OwnRows (left : ℕ) (m : ℕ → ℕ → Bool) : Type 0 where
  pub at : (i j : ℕ) → i < role_width → j < role_width → (Has left i → ⊥)
      → IsTrue (m i j) ↔ (j ≡ i)

-- each role is in its own row alone
pub record AreOwn (rows : List RoleSet) : Type 0 where
  pub at : (i j : ℕ) → i < role_width → j < role_width → IsTrue (role_marks rows i j) ↔ (j ≡ i)
