-- Numbers of four kinds, signed roles and basic concepts, as docs/RULES.md has them (section 2).
use Rattle.std.specs.Prelude.{ℕ, ◌+◌, ◌-◌, ◌*◌, ◌%◌, ◌^◌, ◌≤◌, ◌<◌, ◌≡◌, refl, Bool, true, false, ltb, nat_lt, if◌then◌else◌}
use Rattle.std.proofs.Common.{ap, arith, lt-ltb, le-ltb, ltb-false}
use Rattle.kinds.specs.declared.ConceptName.{ConceptName}
use Rattle.kinds.specs.declared.RoleName.{RoleName}
use Rattle.kinds.specs.declared.Individual.{Individual}
use Rattle.kinds.specs.declared.State.{State}
use Rattle.kinds.specs.declared.SignedRole.{SignedRole}
use Rattle.kinds.specs.declared.DeedNumber.{DeedNumber}
use Rattle.kinds.specs.declared.Counts.{Counts}
use Rattle.kinds.specs.declared.Concept.{Concept}
use Rattle.kinds.specs.declared.Concept.TheVariants.{Name, Exists}

-- the most of each kind that a collection declares
abbrev pub most_names : ℕ
most_names = 64

abbrev pub most_roles : ℕ
most_roles = 32

abbrev pub most_individuals : ℕ
most_individuals = 255

abbrev pub most_states : ℕ
most_states = 32

-- the number of "has a neighbour by the signed role 0"
abbrev pub base : ℕ
base = 64

-- a number as each kind
abbrev pub concept_name : ℕ → ConceptName
concept_name n = record { 0 = n }

abbrev pub role_name : ℕ → RoleName
role_name n = record { 0 = n }

abbrev pub individual : ℕ → Individual
individual n = record { 0 = n }

abbrev pub state : ℕ → State
state n = record { 0 = n }

abbrev pub signed : ℕ → SignedRole
signed n = record { 0 = n }

abbrev pub deed_number : ℕ → DeedNumber
deed_number n = record { 0 = n }

-- the signed role 2 × r is r forward and 2 × r + 1 is r backward
abbrev pub forward : RoleName → SignedRole
forward r = signed (2 * r.0)

abbrev pub backward : RoleName → SignedRole
backward r = signed (2 * r.0 + 1)

-- the number of the same role in the other direction: one more if it is even, else one less
abbrev pub flip : ℕ → ℕ
flip r = r + 1 - 2 * (r % 2)

pub flip-below : (r n : ℕ) → r < 2 * n → flip r < 2 * n
flip-below r n h = omega arith

-- the same role in the other direction
unfoldable pub inverse : SignedRole → SignedRole
inverse R = signed (flip R.0)

pub inverse-inverse : (R : SignedRole) → inverse (inverse R) ≡ R
unfolding inverse
inverse-inverse R =
    let e : R.0 + 1 - 2 * (R.0 % 2) + 1 - 2 * ((R.0 + 1 - 2 * (R.0 % 2)) % 2) ≡ R.0 = omega arith in
    ap signed e

pub inverse-forward : (r : RoleName) → inverse (forward r) ≡ backward r
unfolding inverse
inverse-forward r =
    let e : 2 * r.0 + 1 - 2 * (2 * r.0 % 2) ≡ 2 * r.0 + 1 = omega arith in
    ap signed e

pub inverse-backward : (r : RoleName) → inverse (backward r) ≡ forward r
unfolding inverse
inverse-backward r =
    let e : 2 * r.0 + 1 + 1 - 2 * ((2 * r.0 + 1) % 2) ≡ 2 * r.0 = omega arith in
    ap signed e

-- a signed role as 16 bits hold it; those of declared roles are held as they are
abbrev pub wrapped : SignedRole → SignedRole
wrapped R = signed (R.0 % 2 ^ 16)

pub wrapped-small : (R : SignedRole) → R.0 < 2 ^ 16 → wrapped R ≡ R
wrapped-small R h = let e : R.0 % 2 ^ 16 ≡ R.0 = omega arith in ap signed e

pub wrapped_forward : (r : RoleName) → r.0 < most_roles → wrapped (forward r) ≡ forward r
wrapped_forward r h = wrapped-small (forward r) (omega arith)

pub wrapped_backward : (r : RoleName) → r.0 < most_roles → wrapped (backward r) ≡ backward r
wrapped_backward r h = wrapped-small (backward r) (omega arith)

-- the number of a basic concept: a name's own, or 64 + R
unfoldable pub number_of : Concept → ℕ
number_of (Name A) = A.0
number_of (Exists R) = base + R.0

-- the basic concept of a number
unfoldable pub concept_of : ℕ → Concept
concept_of n = if nat_lt n base then Name (concept_name n) else Exists (signed (n - base))

-- a number is declared when it is below its count; a signed role when its role is
abbrev pub NameDeclared : Counts → ConceptName → Type 0
NameDeclared c A = A.0 < c.names

abbrev pub RoleDeclared : Counts → RoleName → Type 0
RoleDeclared c r = r.0 < c.roles

abbrev pub SignedDeclared : Counts → SignedRole → Type 0
SignedDeclared c R = R.0 < 2 * c.roles

abbrev pub IndividualDeclared : Counts → Individual → Type 0
IndividualDeclared c a = a.0 < c.individuals

abbrev pub StateDeclared : Counts → State → Type 0
StateDeclared c s = s.0 < c.states

-- a basic concept is valid when its name or role is declared
abbrev pub ConceptDeclared : Counts → Concept → Type 0
ConceptDeclared c (Name A) = NameDeclared c A
ConceptDeclared c (Exists R) = SignedDeclared c R

pub inverse-declared : (c : Counts) (R : SignedRole) → SignedDeclared c R
    → SignedDeclared c (inverse R)
unfolding inverse
inverse-declared c R h = omega arith

-- the counts that a collection may declare
pub record CountsFit (c : Counts) : Type 0 where
  pub names : c.names ≤ most_names
  pub roles : c.roles ≤ most_roles
  pub individuals : c.individuals ≤ most_individuals
  pub states : c.states ≤ most_states
  pub start : StateDeclared c c.start

-- a number is that of the concept it means
pub number-concept : (n : ℕ) → number_of (concept_of n) ≡ n
unfolding number_of concept_of
number-concept n = by (ltb n base) refl
  where
    by : (b : Bool) → ltb n base ≡ b
        → number_of (if b then Name (concept_name n) else Exists (signed (n - base))) ≡ n
    by true e = refl
    by false e = omega (arith, ltb-false n base e)

-- a declared concept is that of its number
pub concept-number : (c : Counts) → c.names ≤ most_names → (C : Concept) → ConceptDeclared c C
    → concept_of (number_of C) ≡ C
unfolding number_of concept_of
concept-number c few (Name A) h = rw (lt-ltb A.0 base (omega arith))
concept-number c few (Exists R) h =
    let e : base + R.0 - base ≡ R.0 = omega arith in
    rw (le-ltb (base + R.0) base (omega arith)) (ap (λ (n : ℕ). Exists (signed n)) e)

-- a number from the base on is that of a role's neighbours
pub role-concept : (n : ℕ) → concept_of (base + n) ≡ Exists (signed n)
unfolding concept_of
role-concept n =
    let e : base + n - base ≡ n = omega arith in
    rw (le-ltb (base + n) base (omega arith), e)
