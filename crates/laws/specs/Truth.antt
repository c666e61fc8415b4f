-- A test that computes, and the fact that it is true for: of two facts, of a fact about every element of a list, of orders and equalities.
use Rattle.std.specs.Prelude.{◌≡◌, ◌↔◌, ◌⊎◌, ◌&&◌, ◌||◌, refl, Bool, true, false, List, ℕ, ◌≤◌, ◌<◌, T, IsTrue, leb, ltb, nat_eq}
use Rattle.std.proofs.Common.{sym, inl, inr, ⊎_elim, lt-ltb, ltb-true, le-leb, leb-true, eq-eqb, eqb-true}
use Rattle.std.proofs.lemmas.Bool.{false≢true}
use Rattle.laws.specs.Member.{◌∈◌}
use Rattle.laws.specs.Search.{pick, and, or, any, any-in, any_out, every, every_in, every-out, passes, passed, fails}
use Rattle.laws.specs.Same.{Same, listed_in, listed-out}

-- two tests of one fact are equal
pub test-once : {P : Type 0} (r q : Bool) → IsTrue r ↔ P → IsTrue q ↔ P → r ≡ q
test-once true q h k = sym (k.1 (h.0 refl))
test-once false true h k = h.1 (k.0 refl)
test-once false false h k = refl

-- of two things a test picks: what holds of the first where its fact holds, and of the second where it does not, holds of the one picked
pub picked : {A P : Type 0} (D : A → Type 0) {b : Bool} {x y : A} → IsTrue b ↔ P → (P → D x) → ((P → ⊥) → D y) → D (pick b x y)
picked D {b = true} h f g = f (h.0 refl)
picked D {b = false} h f g = g (λ p. false≢true (h.1 p))

-- a test by what follows from it and what it follows from
pub test-of : {P : Type 0} (b : Bool) → (T b → P) → (P → T b) → IsTrue b ↔ P
test-of b f g = (λ e. f (passed b e), λ p. passes b (g p))

pub test-out : {b : Bool} {P : Type 0} → IsTrue b ↔ P → T b → P
test-out {b} h t = h.0 (passes b t)

pub test-in : {b : Bool} {P : Type 0} → IsTrue b ↔ P → P → T b
test-in {b} h p = passed b (h.1 p)

-- a test is one of itself
pub test-self : (b : Bool) → IsTrue b ↔ IsTrue b
test-self b = (λ e. e, λ e. e)

-- where a test fails its fact does not hold
pub test-false : {b : Bool} {P : Type 0} → IsTrue b ↔ P → b ≡ false → P → ⊥
test-false h e p = false≢true (rw e at (h.1 p))

pub test-fails : {b : Bool} {P : Type 0} → IsTrue b ↔ P → (P → ⊥) → b ≡ false
test-fails {b} h n = fails b (λ t. n (test-out h t))

-- a test of one fact is a test of each fact that says the same
pub test-same : {b : Bool} {P Q : Type 0} → IsTrue b ↔ P → (P → Q) → (Q → P) → IsTrue b ↔ Q
test-same h to from = (λ e. to (h.0 e), λ q. h.1 (from q))

-- of two facts: the second need be tested only where the first holds
pub test-and-then : {a b : Bool} {P Q : Type 0} → IsTrue a ↔ P → (P → IsTrue b ↔ Q) → IsTrue (and a b) ↔ (P × Q)
test-and-then {a} {b} {P} {Q} h k = side a h
  where
    side : (x : Bool) → IsTrue x ↔ P → IsTrue (and x b) ↔ (P × Q)
    side true g = let p = g.0 refl in (λ e. (p, (k p).0 e), λ q. (k p).1 q.1)
    side false g = (λ e. absurd (false≢true e), λ p. g.1 p.0)

pub test-and : {a b : Bool} {P Q : Type 0} → IsTrue a ↔ P → IsTrue b ↔ Q → IsTrue (and a b) ↔ (P × Q)
test-and h k = test-and-then h (λ p. k)

pub test-or : {a b : Bool} {P Q : Type 0} → IsTrue a ↔ P → IsTrue b ↔ Q → IsTrue (or a b) ↔ (P ⊎ Q)
test-or {a} {b} {P} {Q} h k = side a h
  where
    side : (x : Bool) → IsTrue x ↔ P → IsTrue (or x b) ↔ (P ⊎ Q)
    side true g = (λ e. inl (g.0 refl), λ p. refl)
    side false g = (λ e. inr (k.0 e), ⊎_elim (λ p. absurd (false≢true (g.1 p))) (λ q. k.1 q))

-- the same of two tests that are both worked out
pub and_true : (a b : Bool) → ((a && b) ≡ true) ↔ ((a ≡ true) × (b ≡ true))
and_true true b = (λ e. (refl, e), λ p. p.1)
and_true false b = (λ e. absurd (false≢true e), λ p. p.0)

pub or_true : (a b : Bool) → ((a || b) ≡ true) ↔ ((a ≡ true) ⊎ (b ≡ true))
or_true true b = (λ e. inl refl, λ p. refl)
or_true false b = (λ e. inr e, ⊎_elim (λ e. absurd (false≢true e)) (λ e. e))

-- of some element of a list, and of every one
pub test-any : {A : Type 0} (l : List A) {f : A → Bool} {P : A → Type 0} → ((x : A) → x ∈ l → IsTrue (f x) ↔ P x)
    → IsTrue (any l f) ↔ ((x : A) × (x ∈ l) × P x)
test-any l {f} h =
    test-of (any l f) (λ t. let w = any_out l f t in (w.0, w.1, test-out (h w.0 w.1) w.2))
    (λ w. any-in l f w.1 (passed (f w.0) ((h w.0 w.1).1 w.2)))

module _ {A : Type 0} (l : List A) (f : A → Bool) (P : A → Type 0) where
  pub test-every : ((x : A) → IsTrue (f x) ↔ P x) → IsTrue (every l f) ↔ ((x : A) → x ∈ l → P x)
  test-every h = test-of (every l f) (λ t x m. test-out (h x) (every-out l f t m)) (λ p. every_in l f (λ x m. passed (f x) ((h x).1 (p x m))))

pub test-below : (a b : ℕ) → IsTrue (ltb a b) ↔ (a < b)
test-below a b = (ltb-true a b, lt-ltb a b)

pub test-most : (a b : ℕ) → IsTrue (leb a b) ↔ (a ≤ b)
test-most a b = (leb-true a b, le-leb a b)

pub test-equal : (a b : ℕ) → IsTrue (nat_eq a b) ↔ (a ≡ b)
test-equal a b = (eqb-true a b, eq-eqb a b)

pub test-equals : {A : Type 0} (eq : A → A → Bool) → Same eq → (x y : A) → IsTrue (eq x y) ↔ (x ≡ y)
test-equals eq h x y = test-of (eq x y) (h.is x y) (λ e. rw e (h.self y))

pub test-listed : {A : Type 0} (eq : A → A → Bool) → Same eq → (l : List A) (x : A) → IsTrue (any l (eq x)) ↔ (x ∈ l)
test-listed eq h l x = test-of (any l (eq x)) (listed-out eq h l x) (listed_in eq h l x)
