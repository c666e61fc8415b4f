-- The contracts leave one answer, one set, and one relation.
use Rattle.std.specs.Prelude.{ℕ, ◌≡◌, ◌↔◌, IsTrue, Bool, List}
use Rattle.laws.specs.Truth.{test-once}
use Rattle.sets.specs.Bits.{role_width}
use Rattle.sets.specs.Rows.{RoleRows, role_marks}
use Rattle.sets.specs.declared.roles.RoleSet.{RoleSet}
use Rattle.sets.proofs.Once.{set-once, role_rows_once}
use Rattle.clash.specs.Conflicts.{IsConcerned, AreConcerned, Excludes}
use Rattle.clash.specs.Meant.{Computed, Clashes}

-- THEOREM: two answers that satisfy the contract are equal
pub clash-once : (x : Computed) (r q : Bool) → IsTrue r ↔ Clashes x → IsTrue q ↔ Clashes x → r ≡ q
clash-once x r q a b = test-once r q a b

-- THEOREM: and so are two sets
pub concerned-once : (table : List ℕ) (roles : ℕ → ℕ → Bool) (m n : ℕ) → AreConcerned table roles m → AreConcerned table roles n → m ≡ n
concerned-once table roles m n a b = set-once (IsConcerned table roles) m n a.member b.member

-- THEOREM: and so are two relations
pub relation-once : (table : List ℕ) (roles : ℕ → ℕ → Bool) (m n : List RoleSet) → Excludes table roles (role_marks m)
    → Excludes table roles (role_marks n)
    → RoleRows role_width m → RoleRows role_width n → m ≡ n
relation-once table roles m n a b s u =
    role_rows_once role_width m n s u
    (λ i j hi hj. test-once (role_marks m i j) (role_marks n i j) (a.at i j hi hj) (b.at i j hi hj))
