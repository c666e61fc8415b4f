-- What the tables mean: of a well-formed collection they hold what its rules exclude.
use Rattle.std.specs.Prelude.{ℕ, ◌+◌, ◌/◌, ◌<◌, ◌≡◌, refl, ◌↔◌, IsTrue, Bool, length, replicate, slice_index_or}
use Rattle.std.proofs.Common.{arith, inl, inr, ⊎_elim}
use Rattle.std.proofs.lemmas.Nat.Bits.{bit_at-zero}
use Rattle.kinds.specs.declared.SignedRole.{SignedRole}
use Rattle.kinds.specs.declared.Concept.{Concept}
use Rattle.kinds.specs.declared.Concept.TheVariants.{Exists}
use Rattle.kinds.specs.declared.Counts.{Counts}
use Rattle.kinds.specs.Kinds.{base, flip, inverse, inverse-inverse, inverse-declared, signed, number_of, concept_of, number-concept}
use Rattle.kinds.specs.Kinds.{concept-number, role-concept, CountsFit, SignedDeclared, ConceptDeclared}
use Rattle.laws.specs.Member.{◌∈◌}
use Rattle.laws.specs.Numbers.{numbered-out}
use Rattle.meaning.specs.Collection.{Collection, NumbersDeclared}
use Rattle.meaning.specs.Lent.{Tables, collection, records, rule_width, concept_pair, role_pair}
use Rattle.meaning.specs.Orders.{RoleLe, ConceptLe, turned}
use Rattle.meaning.proofs.Declared.{concept-declared}
use Rattle.salvage.specs.Excluded.{Rules, rules_of, IsListed, Apart, Conflict, Doomed, breaks, crosses, deeper, Barred, itself, sinks}
use Rattle.sets.specs.Bits.{concept_width, role_width, IsSetOf}
use Rattle.sets.specs.Rows.{concept_marks, role_marks, no_concepts, no_roles}
use Rattle.sets.proofs.RowLaws.{has_fact, blank_marks}
use Rattle.orders.specs.Rows.{IsRoleOrder, IsConceptOrder}
use Rattle.orders.specs.Marks.{Listed}
use Rattle.orders.proofs.Table.{rules_of as selected, rules-all, rule-in, rule-out}
use Rattle.orders.proofs.Mean.{role-below, concept-below, all-role-rules, all-concept-rules, role-marks-mean, concept-marks-mean}
use Rattle.clash.proofs.RoleLaws.{blank_roles}
use Rattle.sift.specs.declared.excluded.Excluded.{Excluded}
use Rattle.sift.specs.Excludes.{Excludes}
use Rattle.sift.specs.Exclusions.{Below, IsApart, AreApart, Collide, IsConflict, AreConflicts, Breaks, IsDoomed, here, below}
use Rattle.sift.specs.Exclusions.{AreDoomed, IsBarred}

module _ (c : Counts) (t : Tables) (fit : CountsFit c) (ok : NumbersDeclared (collection c t)) (roles concepts : ℕ → ℕ → Bool)
    (ro : IsRoleOrder t.role-rules roles) (co : IsConceptOrder t.concept-rules t.role-rules concepts) where
  abbrev 𝓒 : Collection
  𝓒 = collection c t

  abbrev 𝓡 : Rules
  𝓡 = rules_of 𝓒

  -- ---- the exclusions of both tables

  concept-exclusions : selected concept_of number_of concept_width t.concept-exclusions
      ≡ records rule_width concept_pair t.concept-exclusions
  concept-exclusions =
      rules-all concept_of number_of concept_width t.concept-exclusions
      (λ r m. let d = ok.concept-exclusions r m in (concept-below c t fit ok r.0 d.0, concept-below c t fit ok r.1 d.1))

  role-exclusions : selected signed (λ R. R.0) role_width t.role-exclusions ≡ records rule_width role_pair t.role-exclusions
  role-exclusions =
      rules-all signed (λ R. R.0) role_width t.role-exclusions
      (λ r m. let d = ok.role-exclusions r m in (role-below c t fit ok r.0 d.0, role-below c t fit ok r.1 d.1))

  concept-in : (i j : ℕ) → i < concept_width → j < concept_width → Listed t.concept-exclusions i j
      → (concept_of i, concept_of j) ∈ 𝓒.concept-exclusions
  concept-in i j hi hj l = rw concept-exclusions at (rule-in concept_of number_of concept_width number-concept t.concept-exclusions hi hj l)

  concept-out : (C D : Concept) → (C, D) ∈ 𝓒.concept-exclusions
      → (number_of C < concept_width) × (number_of D < concept_width) × Listed t.concept-exclusions (number_of C) (number_of D)
  concept-out C D m = rule-out concept_of number_of concept_width number-concept t.concept-exclusions (rw concept-exclusions m)

  role-in : (i j : ℕ) → i < role_width → j < role_width → Listed t.role-exclusions i j → (signed i, signed j) ∈ 𝓒.role-exclusions
  role-in i j hi hj l = rw role-exclusions at (rule-in signed (λ R. R.0) role_width (λ i. refl) t.role-exclusions hi hj l)

  role-out : (R S : SignedRole) → (R, S) ∈ 𝓒.role-exclusions → (R.0 < role_width) × (S.0 < role_width) × Listed t.role-exclusions R.0 S.0
  role-out R S m = rule-out signed (λ R. R.0) role_width (λ i. refl) t.role-exclusions (rw role-exclusions m)

  -- ---- concepts

  le : (C D : Concept) → ConceptDeclared c C → ConceptDeclared c D → IsTrue (concepts (number_of C) (number_of D)) ↔ ConceptLe 𝓒 C D
  le C D h k = concept-marks-mean c t fit ok co C D h k

  up : (C : Concept) (n : ℕ) → ConceptDeclared c C → ConceptDeclared c (concept_of n) → IsTrue (concepts (number_of C) n)
      → ConceptLe 𝓒 C (concept_of n)
  up C n h k l = (le C (concept_of n) h k).0 (rw (number-concept n) l)

  apart-out : (C D : Concept) → ConceptDeclared c C → ConceptDeclared c D
      → IsApart t.concept-exclusions concepts (number_of C) (number_of D) → Apart 𝓡 C D
  apart-out C D h k w =
      ⊎_elim (λ p. record {
        over_first = concept_of w.left;
        over_second = concept_of w.right;
        excluded = inl m;
        first = up C w.left h d.0 p.0;
        second = up D w.right k d.1 p.1;
      }) (λ p. record {
        over_first = concept_of w.right;
        over_second = concept_of w.left;
        excluded = inr m;
        first = up C w.right h d.1 p.0;
        second = up D w.left k d.0 p.1;
      }) w.above
    where
      m : (concept_of w.left, concept_of w.right) ∈ 𝓒.concept-exclusions
      m = concept-in w.left w.right w.left_row w.right_row w.listed

      d : ConceptDeclared c (concept_of w.left) × ConceptDeclared c (concept_of w.right)
      d = ok.concept-exclusions (concept_of w.left, concept_of w.right) m

  apart-in : (C D : Concept) → ConceptDeclared c C → ConceptDeclared c D → Apart 𝓡 C D
      → IsApart t.concept-exclusions concepts (number_of C) (number_of D)
  apart-in C D h k a = ⊎_elim straight crossed a.excluded
    where
      straight : (a.over_first, a.over_second) ∈ 𝓒.concept-exclusions → IsApart t.concept-exclusions concepts (number_of C) (number_of D)
      straight m =
          let l = concept-out a.over_first a.over_second m in
          let d = ok.concept-exclusions (a.over_first, a.over_second) m in
          record {
            left = number_of a.over_first;
            right = number_of a.over_second;
            left_row = l.0;
            right_row = l.1;
            listed = l.2;
            above = inl ((le C a.over_first h d.0).1 a.first, (le D a.over_second k d.1).1 a.second);
          }

      crossed : (a.over_second, a.over_first) ∈ 𝓒.concept-exclusions → IsApart t.concept-exclusions concepts (number_of C) (number_of D)
      crossed m =
          let l = concept-out a.over_second a.over_first m in
          let d = ok.concept-exclusions (a.over_second, a.over_first) m in
          record {
            left = number_of a.over_second;
            right = number_of a.over_first;
            left_row = l.0;
            right_row = l.1;
            listed = l.2;
            above = inr ((le C a.over_first h d.1).1 a.first, (le D a.over_second k d.0).1 a.second);
          }

  -- ---- roles

  role-le : (R S : SignedRole) → SignedDeclared c R → SignedDeclared c S → IsTrue (roles R.0 S.0) ↔ RoleLe 𝓒 R S
  role-le R S h k = role-marks-mean c t fit ok ro R S h k

  -- an exclusion stands above both
  record Crossing (R S : SignedRole) : Type 0 where
    over_first : SignedRole
    over_second : SignedRole
    excluded : IsListed 𝓒.role-exclusions over_first over_second
    first : RoleLe 𝓒 R over_first
    second : RoleLe 𝓒 S over_second

  crossing-out : (R S : SignedRole) → SignedDeclared c R → SignedDeclared c S → Collide t.role-exclusions roles R.0 S.0 → Crossing R S
  crossing-out R S h k w = ⊎_elim straight crossed w.excluded.sides
    where
      straight : Listed t.role-exclusions w.excluded.by w.by → Crossing R S
      straight l =
          let m = role-in w.excluded.by w.by w.excluded.row w.row l in
          let d = ok.role-exclusions (signed w.excluded.by, signed w.by) m in
          record {
            over_first = signed w.excluded.by;
            over_second = signed w.by;
            excluded = inl m;
            first = (role-le R (signed w.excluded.by) h d.0).0 w.excluded.above;
            second = (role-le S (signed w.by) k d.1).0 w.above;
          }

      crossed : Listed t.role-exclusions w.by w.excluded.by → Crossing R S
      crossed l =
          let m = role-in w.by w.excluded.by w.row w.excluded.row l in
          let d = ok.role-exclusions (signed w.by, signed w.excluded.by) m in
          record {
            over_first = signed w.excluded.by;
            over_second = signed w.by;
            excluded = inr m;
            first = (role-le R (signed w.excluded.by) h d.1).0 w.excluded.above;
            second = (role-le S (signed w.by) k d.0).0 w.above;
          }

  crossing-in : (R S : SignedRole) → SignedDeclared c R → SignedDeclared c S → Crossing R S → Collide t.role-exclusions roles R.0 S.0
  crossing-in R S h k w = ⊎_elim straight crossed w.excluded
    where
      straight : (w.over_first, w.over_second) ∈ 𝓒.role-exclusions → Collide t.role-exclusions roles R.0 S.0
      straight m =
          let l = role-out w.over_first w.over_second m in
          let d = ok.role-exclusions (w.over_first, w.over_second) m in
          record {
            by = w.over_second.0;
            row = l.1;
            excluded = record { by = w.over_first.0; row = l.0; above = (role-le R w.over_first h d.0).1 w.first; sides = inl l.2 };
            above = (role-le S w.over_second k d.1).1 w.second;
          }

      crossed : (w.over_second, w.over_first) ∈ 𝓒.role-exclusions → Collide t.role-exclusions roles R.0 S.0
      crossed m =
          let l = role-out w.over_second w.over_first m in
          let d = ok.role-exclusions (w.over_second, w.over_first) m in
          record {
            by = w.over_second.0;
            row = l.0;
            excluded = record { by = w.over_first.0; row = l.1; above = (role-le R w.over_first h d.1).1 w.first; sides = inr l.2 };
            above = (role-le S w.over_second k d.0).1 w.second;
          }

  -- S follows from the inverse of R, said the other way round
  turned-back : (R S : SignedRole) → RoleLe 𝓒 (inverse R) S → RoleLe 𝓒 R (inverse S)
  turned-back R S l = rw (inverse-inverse R) at (turned l)

  conflict-out : (R S : SignedRole) → SignedDeclared c R → SignedDeclared c S → IsConflict t.role-exclusions roles R.0 S.0 → Conflict 𝓡 R S
  unfolding inverse
  conflict-out R S h k (inl w) =
      let x = crossing-out R S h k w in
      record { over_first = x.over_first; over_second = x.over_second; excluded = inl x.excluded; first = x.first; second = x.second }
  conflict-out R S h k (inr w) =
      let x = crossing-out (inverse R) (inverse S) (inverse-declared c R h) (inverse-declared c S k) w in
      record {
        over_first = inverse x.over_first;
        over_second = inverse x.over_second;
        excluded = inr (rw (inverse-inverse x.over_first, inverse-inverse x.over_second) x.excluded);
        first = turned-back R x.over_first x.first;
        second = turned-back S x.over_second x.second;
      }

  conflict-in : (R S : SignedRole) → SignedDeclared c R → SignedDeclared c S → Conflict 𝓡 R S → IsConflict t.role-exclusions roles R.0 S.0
  unfolding inverse
  conflict-in R S h k a =
      ⊎_elim
      (λ l. inl (crossing-in R S h k
      (record { over_first = a.over_first; over_second = a.over_second; excluded = l; first = a.first; second = a.second })))
      (λ l. inr (crossing-in (inverse R) (inverse S) (inverse-declared c R h) (inverse-declared c S k) (record {
        over_first = inverse a.over_first;
        over_second = inverse a.over_second;
        excluded = l;
        first = turned a.first;
        second = turned a.second;
      }))) a.excluded

  -- ---- children

  -- what is marked above a declared concept is declared
  role-above : (C : Concept) → ConceptDeclared c C → (s : ℕ) → s < role_width → IsTrue (concepts (number_of C) (base + s))
      → ConceptLe 𝓒 C (Exists (signed s))
  role-above C h s l m =
      let k = concept-below c t fit ok C h in
      rw (all-concept-rules c t fit ok, all-role-rules c t fit ok, concept-number c fit.names C h, role-concept s)
      at ((co.at (number_of C) (base + s) k (omega arith)).0 m)

  above-role : (C : Concept) → ConceptDeclared c C → (R : SignedRole) → ConceptLe 𝓒 C (Exists R)
      → SignedDeclared c R × (R.0 < role_width) × IsTrue (concepts (number_of C) (base + R.0))
  unfolding number_of
  above-role C h R u =
      let d : SignedDeclared c R = concept-declared 𝓒 ok u h in
      (d, role-below c t fit ok R d, (le C (Exists R) h d).1 u)

  module _ (apart conflicts : ℕ → ℕ → Bool) (a : AreApart t.concept-exclusions concepts apart)
      (k : AreConflicts t.role-exclusions roles conflicts) where
    apart-is : (C D : Concept) → ConceptDeclared c C → ConceptDeclared c D → IsTrue (apart (number_of C) (number_of D)) ↔ Apart 𝓡 C D
    apart-is C D hC hD =
        let e = a.at (number_of C) (number_of D) (concept-below c t fit ok C hC) (concept-below c t fit ok D hD) in
        (λ p. apart-out C D hC hD (e.0 p), λ w. e.1 (apart-in C D hC hD w))

    conflict-is : (R S : SignedRole) → SignedDeclared c R → SignedDeclared c S → IsTrue (conflicts R.0 S.0) ↔ Conflict 𝓡 R S
    conflict-is R S hR hS =
        let e = k.at R.0 S.0 (role-below c t fit ok R hR) (role-below c t fit ok S hS) in
        (λ p. conflict-out R S hR hS (e.0 p), λ w. e.1 (conflict-in R S hR hS w))

    own : (R : SignedRole) → SignedDeclared c R
        → IsTrue (apart (base + flip R.0) (base + flip R.0)) ↔ Apart 𝓡 (Exists (inverse R)) (Exists (inverse R))
    unfolding inverse number_of
    own R h = apart-is (Exists (inverse R)) (Exists (inverse R)) (inverse-declared c R h) (inverse-declared c R h)

    child-up : (R : SignedRole) → SignedDeclared c R → (s : ℕ) → s < role_width → IsTrue (concepts (base + flip R.0) (base + s))
        → ConceptLe 𝓒 (Exists (inverse R)) (Exists (signed s))
    unfolding inverse number_of
    child-up R h s l m = role-above (Exists (inverse R)) (inverse-declared c R h) s l m

    up-child : (R : SignedRole) → SignedDeclared c R → (S : SignedRole) → ConceptLe 𝓒 (Exists (inverse R)) (Exists S)
        → SignedDeclared c S × (S.0 < role_width) × IsTrue (concepts (base + flip R.0) (base + S.0))
    unfolding inverse number_of
    up-child R h S u = above-role (Exists (inverse R)) (inverse-declared c R h) S u

    module _ (breaking doomed : ℕ) (b : IsSetOf (Below role_width (Breaks apart conflicts)) breaking)
        (d : AreDoomed concepts breaking doomed) where
      doomed-out : {r : ℕ} → IsDoomed concepts breaking r → SignedDeclared c (signed r) → Doomed 𝓡 (signed r)
      doomed-out (here {r = r} p) h =
          ⊎_elim (λ q. breaks ((own (signed r) h).0 q)) (λ q. crosses ((conflict-is (signed r) (signed r) h h).0 q)) ((b.member r).0 p).1
      doomed-out (below {r = r} {s = s} l m f w) h =
          let u = child-up (signed r) h s m f in
          let e : SignedDeclared c (signed s) = concept-declared 𝓒 ok u (inverse-declared c (signed r) h) in
          deeper u (doomed-out w e)

      doomed-in : {R : SignedRole} → Doomed 𝓡 R → SignedDeclared c R → IsDoomed concepts breaking R.0
      doomed-in (breaks {R = R} w) h = here ((b.member R.0).1 (role-below c t fit ok R h, inl ((own R h).1 w)))
      doomed-in (crosses {R = R} w) h = here ((b.member R.0).1 (role-below c t fit ok R h, inr ((conflict-is R R h h).1 w)))
      doomed-in (deeper {R = R} {S = S} u w) h =
          let x = up-child R h S u in
          below (role-below c t fit ok R h) x.1 x.2 (doomed-in w x.0)

      barred-out : (C : Concept) → ConceptDeclared c C → IsBarred concepts apart doomed (number_of C) → Barred 𝓡 C
      barred-out C h (inl p) = itself ((apart-is C C h h).0 p)
      barred-out C h (inr w) =
          let u = role-above C h w.role w.within w.has in
          sinks (signed w.role) u (doomed-out ((d.at w.role).0 w.member) (concept-declared 𝓒 ok u h))

      barred-in : (C : Concept) → ConceptDeclared c C → Barred 𝓡 C → IsBarred concepts apart doomed (number_of C)
      barred-in C h (itself w) = inl ((apart-is C C h h).1 w)
      barred-in C h (sinks R u w) =
          let x = above-role C h R u in
          inr (record { role = R.0; within = x.1; member = (d.at R.0).1 (doomed-in w x.0); has = x.2 })

  -- THEOREM: the tables hold what the rules of the collection exclude
  pub tables-mean : (x : Excluded) (breaking doomed : ℕ) → AreApart t.concept-exclusions concepts (concept_marks x.apart)
      → AreConflicts t.role-exclusions roles (role_marks x.conflicts)
      → IsSetOf (Below role_width (Breaks (concept_marks x.apart) (role_marks x.conflicts))) breaking → AreDoomed concepts breaking doomed
      → IsSetOf (Below concept_width (IsBarred concepts (concept_marks x.apart) doomed)) x.barred.0 → Excludes 𝓒 x
  tables-mean x breaking doomed a k b d r = record {
    apart = λ C D hC hD. both (has_fact (slice_index_or x.apart (number_of C) no_concepts).0 (number_of D))
        (apart-is (concept_marks x.apart) (role_marks x.conflicts) a k C D hC hD);
    barred = λ C h. (
      λ p. barred-out (concept_marks x.apart) (role_marks x.conflicts) a k breaking doomed b d C h ((r.member (number_of C)).0 p).1,
      λ w. (r.member (number_of C)).1 (
        concept-below c t fit ok C h,
        barred-in (concept_marks x.apart) (role_marks x.conflicts) a k breaking doomed b d C h w,
      ),
    );
    conflicts = λ R S hR hS. both (has_fact (slice_index_or x.conflicts R.0 no_roles).0 S.0)
        (conflict-is (concept_marks x.apart) (role_marks x.conflicts) a k R S hR hS);
  }
    where
      both : {b : Bool} {P Q : Type 0} → IsTrue b ↔ P → IsTrue b ↔ Q → P ↔ Q
      both f g = (λ p. g.0 (f.1 p), λ q. f.0 (g.1 q))

-- and where there is no exclusion they hold nothing
module _ (c : Counts) (t : Tables) (fit : CountsFit c) (ok : NumbersDeclared (collection c t))
    (no-concept : length t.concept-exclusions / rule_width ≡ 0) (no-role : length t.role-exclusions / rule_width ≡ 0) where
  abbrev 𝓔 : Rules
  𝓔 = rules_of (collection c t)

  not-listed : {C D : Concept} → (C, D) ∈ records rule_width concept_pair t.concept-exclusions → ⊥
  unfolding records
  not-listed m =
      let w = numbered-out (concept_pair t.concept-exclusions) (length t.concept-exclusions / rule_width) m in
      let l = w.1 in
      omega arith

  role-not-listed : {R S : SignedRole} → (R, S) ∈ records rule_width role_pair t.role-exclusions → ⊥
  unfolding records
  role-not-listed m =
      let w = numbered-out (role_pair t.role-exclusions) (length t.role-exclusions / rule_width) m in
      let l = w.1 in
      omega arith

  not-apart : {C D : Concept} → Apart 𝓔 C D → ⊥
  not-apart w = ⊎_elim (λ m. not-listed m) (λ m. not-listed m) w.excluded

  not-conflict : {R S : SignedRole} → Conflict 𝓔 R S → ⊥
  not-conflict w =
      ⊎_elim (⊎_elim (λ m. role-not-listed m) (λ m. role-not-listed m)) (⊎_elim (λ m. role-not-listed m) (λ m. role-not-listed m))
      w.excluded

  not-doomed : {R : SignedRole} → Doomed 𝓔 R → ⊥
  not-doomed (breaks w) = not-apart w
  not-doomed (crosses w) = not-conflict w
  not-doomed (deeper u w) = not-doomed w

  not-barred : {C : Concept} → Barred 𝓔 C → ⊥
  not-barred (itself w) = not-apart w
  not-barred (sinks R u w) = not-doomed w

  pub nothing-mean : Excludes (collection c t)
      (record { apart = replicate concept_width no_concepts; barred = no_concepts; conflicts = replicate role_width no_roles })
  nothing-mean = record {
    apart = λ C D hC hD. (
      λ p. absurd (blank_marks concept_width (number_of C) (number_of D) (concept-below c t fit ok C hC)
          ((has_fact (slice_index_or (replicate concept_width no_concepts) (number_of C) no_concepts).0 (number_of D)).1 p)),
      λ w. absurd (not-apart w),
    );
    barred = λ C h. (λ p. let z = bit_at-zero (number_of C) in absurd (omega arith), λ w. absurd (not-barred w));
    conflicts = λ R S hR hS. (
      λ p. absurd (blank_roles role_width R.0 S.0 (role-below c t fit ok R hR)
          ((has_fact (slice_index_or (replicate role_width no_roles) R.0 no_roles).0 S.0).1 p)),
      λ w. absurd (not-conflict w),
    );
  }
