-- Closing the pairs of numbers that the rules of a table give marks exactly what follows from the rules.
use Rattle.std.specs.Prelude.{ℕ, ◌+◌, ◌-◌, ◌<◌, ◌≤◌, ◌≡◌, refl, ◌⊎◌, ◌↔◌, IsTrue, Bool}
use Rattle.std.proofs.Common.{sym, ◌∙◌, ap, subst₂, inl, inr, arith, le-ltb}
use Rattle.std.proofs.Math.Logic.{⊎_elim}
use mathlib.Core.List.{List, Memᴰ}
use Rattle.kinds.specs.declared.SignedRole.{SignedRole}
use Rattle.kinds.specs.declared.Concept.{Concept}
use Rattle.kinds.specs.declared.Concept.TheVariants.{Exists}
use Rattle.kinds.specs.Kinds.{base, signed, inverse, inverse-inverse, number_of, concept_of, number-concept}
use Rattle.laws.specs.Warshall.{Star, MarkedPair, here, edge, smallest, mapped, Closes}
use Rattle.laws.specs.Warshall as warshall
use Rattle.meaning.specs.Orders.{RoleFollows, ConceptFollows, same, then, rule, turned, wider}
use Rattle.laws.specs.Gains.{Either}
use Rattle.orders.specs.Rows.{role_rules, concept_rules, IsRoleOrder, IsConceptOrder}
use Rattle.sets.specs.Rows.{Adds}
use Rattle.sets.proofs.RowLaws.{adds_same, adds_then}
use Rattle.orders.specs.Marks.{Shows, Pair, Listed, RoleListed, WithInverses, turn, Wide, IsPair, IsClosedOver}
use Rattle.sets.specs.Bits.{concept_width, role_width}
use Rattle.orders.proofs.Table.{rule-in, rule-out}

pub turn-turn : (i : ℕ) → turn (turn i) ≡ i
turn-turn i = ap (λ (R : SignedRole). R.0) (inverse-inverse (signed i))

pub turn_below : (i : ℕ) → i < role_width → turn i < role_width
unfolding inverse
turn_below i h = omega arith

-- a pair, and then the pair of the inverses
pub adds_with_inverses : (m s r : ℕ → ℕ → Bool) (R S R' S' : SignedRole) → Adds role_width role_width m (Pair R.0 S.0) s
    → Adds role_width role_width s (Pair R'.0 S'.0) r
    → R' ≡ inverse R → S' ≡ inverse S → Adds role_width role_width m (WithInverses (Pair R.0 S.0)) r
adds_with_inverses m s r R S R' S' f g e e' =
    let a : R'.0 ≡ turn R.0 = ap (λ (R : SignedRole). R.0) e in
    let b : S'.0 ≡ turn S.0 = ap (λ (R : SignedRole). R.0) e' in
    adds_same role_width role_width m (Either (Pair R.0 S.0) (Pair R'.0 S'.0)) (WithInverses (Pair R.0 S.0)) r
    (adds_then role_width role_width m (Pair R.0 S.0) (Pair R'.0 S'.0) s r f g)
    (λ i j hi hj. ⊎_elim (λ p. inl p) (λ p. inr (ap turn (p.0 ∙ a) ∙ turn-turn R.0, ap turn (p.1 ∙ b) ∙ turn-turn S.0)))
    (λ i j hi hj. ⊎_elim (λ p. inl p) (λ p. inr (sym (turn-turn i) ∙ ap turn p.0 ∙ sym a, sym (turn-turn j) ∙ ap turn p.1 ∙ sym b)))

-- an order F of numbered things, and a matrix whose pairs below n follow and lead to all that follows
module _ {A : Type 0} (of : ℕ → A) (number : A → ℕ) (back : (i : ℕ) → number (of i) ≡ i) (n : ℕ) (F : A → A → Type 0)
    (m r : ℕ → ℕ → Bool) where
  closed : ((a : A) → F a a) → ((a b c : A) → F a b → F b c → F a c) → ((i j : ℕ) → MarkedPair n m i j → F (of i) (of j))
      → ((a b : A) → F a b → Star (MarkedPair n m) (number a) (number b)) → Closes n m r
      → (i j : ℕ) → i < n → j < n → IsTrue (r i j) ↔ F (of i) (of j)
  closed self next sound whole c i j hi hj = (
    λ p. smallest {P = λ i j. F (of i) (of j)} (λ i. self (of i)) sound (λ i j k. next (of i) (of j) (of k)) (c.only i j hi hj p),
    λ p. c.each i j hi hj (subst₂ (λ (x y : ℕ). Star (MarkedPair n m) x y) (back i) (back j) (whole _ _ p)),
  )

module _ (t : List ℕ) where
  role-in : {i j : ℕ} → i < role_width → j < role_width → Listed t i j → RoleFollows (role_rules t) (signed i) (signed j)
  unfolding role_rules
  role-in hi hj p = rule (rule-in signed (λ R. R.0) role_width (λ i. refl) t hi hj p)

  role-out : {R S : SignedRole} → Memᴰ {A = SignedRole × SignedRole} (R, S) (role_rules t)
      → (R.0 < role_width) × (S.0 < role_width) × Listed t R.0 S.0
  unfolding role_rules
  role-out h = rule-out signed (λ R. R.0) role_width (λ i. refl) t h

  -- what follows is the same, or has a row
  role-within : {R S : SignedRole} → RoleFollows (role_rules t) R S → (R.0 ≡ S.0) ⊎ ((R.0 < role_width) × (S.0 < role_width))
  role-within same = inl refl
  role-within (then l m) =
      ⊎_elim (λ e. ⊎_elim (λ f. inl (e ∙ f)) (λ f. inr (omega arith, f.1)) (role-within m))
      (λ e. ⊎_elim (λ f. inr (e.0, omega arith)) (λ f. inr (e.0, f.1)) (role-within m)) (role-within l)
  role-within (rule h) = let w = role-out h in inr (w.0, w.1)
  role-within (turned {R = R} {S = S} l) =
      ⊎_elim (λ e. inl (ap turn e)) (λ w. inr (turn_below R.0 w.0, turn_below S.0 w.1)) (role-within l)

  module _ (m : ℕ → ℕ → Bool) (e : Shows role_width m (RoleListed t)) where
    role-edge : (i j : ℕ) → i < role_width → j < role_width → RoleListed t i j → MarkedPair role_width m i j
    role-edge i j hi hj p = record { row = hi; col = hj; mark = (e.at i j hi hj).1 p }

    role-sound : (i j : ℕ) → MarkedPair role_width m i j → RoleFollows (role_rules t) (signed i) (signed j)
    role-sound i j d =
        let w = (e.at i j d.row d.col).0 d.mark in
        ⊎_elim (λ p. role-in d.row d.col (w.0, w.1, p))
        (λ p.
        subst₂ (λ (R S : SignedRole). RoleFollows (role_rules t) R S) (inverse-inverse (signed i)) (inverse-inverse (signed j))
        (turned (role-in (turn_below i d.row) (turn_below j d.col) (w.0, w.1, p))))
        w.2

    role-turn : (i j : ℕ) → MarkedPair role_width m i j → MarkedPair role_width m (turn i) (turn j)
    role-turn i j d =
        let w = (e.at i j d.row d.col).0 d.mark in
        role-edge (turn i) (turn j) (turn_below i d.row) (turn_below j d.col)
        (w.0, w.1, ⊎_elim (λ p. inr (rw (turn-turn i, turn-turn j) p)) (λ p. inl p) w.2)

    role-whole : {R S : SignedRole} → RoleFollows (role_rules t) R S → Star (MarkedPair role_width m) R.0 S.0
    role-whole same = here
    role-whole (then l n) = warshall.then (role-whole l) (role-whole n)
    role-whole (rule {R = R} {S = S} h) =
        let w = role-out h in
        edge (role-edge R.0 S.0 w.0 w.1 (w.2.0, w.2.1, inl w.2.2))
    role-whole (turned l) = mapped turn role-turn (role-whole l)

    pub role-closed : (r : ℕ → ℕ → Bool) → Closes role_width m r → IsRoleOrder t r
    role-closed r c =
        record {
          at = closed signed (λ R. R.0) (λ i. refl) role_width (RoleFollows (role_rules t)) m r (λ R. same)
              (λ R S U. then) role-sound (λ R S. role-whole) c;
        }

module _ (t roles : List ℕ) (from : ℕ → ℕ → Bool) (o : IsRoleOrder roles from) (m : ℕ → ℕ → Bool)
    (e : Shows concept_width m (Either (Wide from) (Listed t))) where
  exists-of : (i : ℕ) → base ≤ i → concept_of i ≡ Exists (signed (i - base))
  unfolding concept_of
  exists-of i h = rw (le-ltb i base h)

  concept-sound : (i j : ℕ) → MarkedPair concept_width m i j
      → ConceptFollows (concept_rules t) (role_rules roles) (concept_of i) (concept_of j)
  unfolding concept_rules
  concept-sound i j d =
      let hi = d.row in
      let hj = d.col in
      ⊎_elim (λ p. rw (exists-of i p.0, exists-of j p.1) (wider ((o.at (i - base) (j - base) (omega arith) (omega arith)).0 p.2)))
      (λ p. rule (rule-in concept_of number_of concept_width number-concept t hi hj p)) ((e.at i j hi hj).0 d.mark)

  concept-edge : (i j : ℕ) → i < concept_width → j < concept_width → Either (Wide from) (Listed t) i j → MarkedPair concept_width m i j
  concept-edge i j hi hj p = record { row = hi; col = hj; mark = (e.at i j hi hj).1 p }

  exists-whole : {R S : SignedRole} → RoleFollows (role_rules roles) R S → Star (MarkedPair concept_width m) (base + R.0) (base + S.0)
  exists-whole {R} {S} l =
      ⊎_elim (λ q. rw q here)
      (λ w.
      let hR = w.0 in
      let hS = w.1 in
      let a : base + R.0 - base ≡ R.0 = omega arith in
      let b : base + S.0 - base ≡ S.0 = omega arith in
      edge (concept-edge (base + R.0) (base + S.0) (omega arith) (omega arith)
      (inl (omega arith, omega arith, rw (a, b) ((o.at R.0 S.0 hR hS).1 l)))))
      (role-within roles l)

  concept-whole : {C D : Concept} → ConceptFollows (concept_rules t) (role_rules roles) C D
      → Star (MarkedPair concept_width m) (number_of C) (number_of D)
  unfolding concept_rules number_of
  concept-whole same = here
  concept-whole (then l n) = warshall.then (concept-whole l) (concept-whole n)
  concept-whole (rule {C = C} {D = D} h) =
      let w = rule-out concept_of number_of concept_width number-concept t h in
      edge (concept-edge (number_of C) (number_of D) w.0 w.1 (inr w.2))
  concept-whole (wider l) = exists-whole l

  pub concept-closed : (r : ℕ → ℕ → Bool) → Closes concept_width m r → IsConceptOrder t roles r
  concept-closed r c =
      record {
        at = closed concept_of number_of number-concept concept_width (ConceptFollows (concept_rules t) (role_rules roles)) m r
            (λ C. same) (λ C D E. then) concept-sound (λ C D. concept-whole) c;
      }

-- THEOREM: closing the pairs that a table lists and marks of roles widen marks what follows from them, whatever the roles' order is
module _ (rules : List ℕ) (roles m r : ℕ → ℕ → Bool) (e : Shows concept_width m (Either (Wide roles) (Listed rules)))
    (c : Closes concept_width m r) where
  pub closed-over : IsClosedOver rules roles r
  closed-over = record {
    at =
        closed (λ i. i) (λ i. i) (λ i. refl) concept_width (Star (IsPair rules roles)) m r (λ a. here) (λ a b c p q. warshall.then p q)
        (λ i j d. edge (record { row = d.row; col = d.col; pair = (e.at i j d.row d.col).0 d.mark })) whole c;
  }
    where
      whole : (a b : ℕ) → Star (IsPair rules roles) a b → Star (MarkedPair concept_width m) a b
      whole a b =
          smallest (λ a. here) (λ a b p. edge (record { row = p.row; col = p.col; mark = (e.at a b p.row p.col).1 p.pair }))
          (λ a b c p q. warshall.then p q)
