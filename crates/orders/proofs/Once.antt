-- The contracts of `orders` leave one answer of the type they return. They say no lengths: those are of the types.
use Rattle.std.specs.Prelude.{ℕ, ◌≡◌, Bool, false, List, length}
use Rattle.std.proofs.Common.{sym, ◌∙◌, ext_get_or}
use Rattle.laws.specs.Marks.{mark, Sized, sized-once}
use Rattle.laws.specs.Truth.{test-once}
use Rattle.laws.specs.Warshall.{Closes}
use Rattle.sets.specs.Bits.{concept_width, role_width}
use Rattle.sets.specs.Rows.{Adds, concept_marks, role_marks, ConceptRows, RoleRows}
use Rattle.sets.specs.declared.concepts.ConceptSet.{ConceptSet}
use Rattle.sets.specs.declared.roles.RoleSet.{RoleSet}
use Rattle.sets.proofs.Once.{concept_rows_once, role_rows_once}
use Rattle.orders.specs.Rows.{IsRoleOrder, IsConceptOrder, IsTransposed}
use Rattle.orders.specs.Marks.{IsClosedOver, OrRow}

-- THEOREM: of one table only one order, and of two tables
pub role-order-once : {rules : List ℕ} (m n : List RoleSet) → IsRoleOrder rules (role_marks m) → IsRoleOrder rules (role_marks n)
    → RoleRows role_width m → RoleRows role_width n → m ≡ n
role-order-once m n o p s u =
    role_rows_once role_width m n s u (λ i j hi hj. test-once (role_marks m i j) (role_marks n i j) (o.at i j hi hj) (p.at i j hi hj))

pub concept-order-once : {rules roles : List ℕ} (m n : List ConceptSet) → IsConceptOrder rules roles (concept_marks m)
    → IsConceptOrder rules roles (concept_marks n)
    → ConceptRows concept_width m → ConceptRows concept_width n → m ≡ n
concept-order-once m n o p s u =
    concept_rows_once concept_width m n s u
    (λ i j hi hj. test-once (concept_marks m i j) (concept_marks n i j) (o.at i j hi hj) (p.at i j hi hj))

-- THEOREM: of one table and one order of the roles, whatever it is
pub closed-order-once : {rules : List ℕ} {roles : ℕ → ℕ → Bool} (m n : List ConceptSet) → IsClosedOver rules roles (concept_marks m)
    → IsClosedOver rules roles (concept_marks n)
    → ConceptRows concept_width m → ConceptRows concept_width n → m ≡ n
closed-order-once m n o p s u =
    concept_rows_once concept_width m n s u
    (λ i j hi hj. test-once (concept_marks m i j) (concept_marks n i j) (o.at i j hi hj) (p.at i j hi hj))

-- THEOREM: one relation is another transposed
pub transposed-once : (t : ℕ → ℕ → Bool) (m n : List ConceptSet) → IsTransposed concept_width t (concept_marks m)
    → IsTransposed concept_width t (concept_marks n)
    → ConceptRows concept_width m → ConceptRows concept_width n → m ≡ n
transposed-once t m n o p s u =
    concept_rows_once concept_width m n s u (λ i j hi hj. o.at i j hi hj ∙ sym (p.at i j hi hj))

-- THEOREM: the same rows with the same pairs marked are one
pub pairs-once : (old : ℕ → ℕ → Bool) (E : ℕ → ℕ → Type 0) (m n : List ConceptSet)
    → Adds concept_width concept_width old E (concept_marks m)
    → Adds concept_width concept_width old E (concept_marks n) → ConceptRows concept_width m → ConceptRows concept_width n → m ≡ n
pairs-once old E m n o p s u =
    concept_rows_once concept_width m n s u
    (λ i j hi hj. test-once (concept_marks m i j) (concept_marks n i j) (o.at i j hi hj) (p.at i j hi hj))

-- THEOREM: one array closes another, and one row has the marks of two
pub closes-once : {n : ℕ} (m r q : List (List Bool)) → Closes n (mark m) (mark r) → Closes n (mark m) (mark q) → Sized n n r → Sized n n q
    → r ≡ q
closes-once m r q c d s u =
    sized-once r q s u
    (λ i j hi hj. test-once (mark r i j) (mark q i j) (c.only i j hi hj, c.each i j hi hj) (d.only i j hi hj, d.each i j hi hj))

pub or_row-once : {n : ℕ} {a b : List Bool} (r q : List Bool) → OrRow n a b r → OrRow n a b q → length r ≡ n → length q ≡ n → r ≡ q
or_row-once r q o p l k = ext_get_or false r q (l ∙ sym k) (λ j h. let i = rw l at h in o.at j i ∙ sym (p.at j i))
