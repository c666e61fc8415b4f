-- Calculation: R ≤ S, C ≤ D and DL-Lite's steps as tests that compute, and that they say what the definitions say.
use Rattle.std.specs.Prelude.{◌≡◌, ◌↔◌, refl, Bool, false, ◌⊎◌, eqb, IsTrue}
use Rattle.std.proofs.Common.{ap, inl, inr, eqb→eq}
use Rattle.std.proofs.Math.Dec.{T, eqb_refl}
use Rattle.std.proofs.lemmas.Bool.{false≢true}
use Rattle.kinds.specs.declared.ConceptName.{ConceptName}
use Rattle.kinds.specs.declared.Individual.{Individual}
use Rattle.kinds.specs.declared.State.{State}
use Rattle.kinds.specs.declared.SignedRole.{SignedRole}
use Rattle.kinds.specs.declared.Concept.{Concept}
use Rattle.kinds.specs.declared.Concept.TheVariants.{Name, Exists}
use Rattle.kinds.specs.Kinds.{inverse, inverse-inverse, concept_name, individual, signed, state, SignedDeclared, ConceptDeclared}
use Rattle.laws.specs.Member.{◌∈◌}
use Rattle.laws.specs.Search.{any, or, and, passed}
use Rattle.laws.specs.Same.{Same, both, both-same}
use Rattle.laws.specs.Truth.{test-of, test-in, test-out, test-self, test-same, test-and, test-or, test-any, test-equals, test-listed}
use Rattle.laws.specs.Chain.{Chain, link, chain, closed, closed_in, closed-out}
use Rattle.meaning.specs.Collection.{Collection, Letter, role, test, Step, step, RoleStep, TestStep, NumbersDeclared}
use Rattle.meaning.specs.Orders.{RoleLe, ConceptLe, same, then, rule, turned, wider}
use Rattle.meaning.specs.Lite.{signed_roles, valid_concepts, lite}
use Rattle.meaning.proofs.Declared.{signed-in, signed-out, concept-in, concept-out, role-declared, concept-declared}
use Rattle.meaning.proofs.RoleTurned.{inverses-follow}
use Rattle.theory.specs.Tests.{Tests, AreTestsOf}

-- equality of each kind
abbrev pub same_name : ConceptName → ConceptName → Bool
same_name A B = eqb A.0 B.0

abbrev pub same_individual : Individual → Individual → Bool
same_individual a b = eqb a.0 b.0

abbrev pub same_state : State → State → Bool
same_state s t = eqb s.0 t.0

abbrev pub same_role : SignedRole → SignedRole → Bool
same_role R S = eqb R.0 S.0

abbrev pub same_concept : Concept → Concept → Bool
same_concept (Name A) (Name B) = same_name A B
same_concept (Name A) (Exists S) = false
same_concept (Exists R) (Name B) = false
same_concept (Exists R) (Exists S) = same_role R S

pub name-same : Same same_name
name-same = record { is = λ A B e. ap concept_name (eqb→eq A.0 B.0 e); self = λ A. eqb_refl A.0 }

pub individual-same : Same same_individual
individual-same = record { is = λ a b e. ap individual (eqb→eq a.0 b.0 e); self = λ a. eqb_refl a.0 }

pub state-same : Same same_state
state-same = record { is = λ s t e. ap state (eqb→eq s.0 t.0 e); self = λ s. eqb_refl s.0 }

pub role_same : Same same_role
role_same = record { is = λ R S e. ap signed (eqb→eq R.0 S.0 e); self = λ R. eqb_refl R.0 }

pub concept-same : Same same_concept
concept-same = record { is = is; self = self }
  where
    is : (C D : Concept) → T (same_concept C D) → C ≡ D
    is (Name A) (Name B) e = ap Name (name-same.is A B e)
    is (Name A) (Exists S) e = absurd e
    is (Exists R) (Name B) e = absurd e
    is (Exists R) (Exists S) e = ap Exists (role_same.is R S e)

    self : (C : Concept) → T (same_concept C C)
    self (Name A) = eqb_refl A.0
    self (Exists R) = eqb_refl R.0

pub individual-equal : (a b : Individual) → IsTrue (same_individual a b) ↔ (a ≡ b)
individual-equal = test-equals same_individual individual-same

pub state-equal : (s t : State) → IsTrue (same_state s t) ↔ (s ≡ t)
state-equal = test-equals same_state state-same

pub role-equal : (R S : SignedRole) → IsTrue (same_role R S) ↔ (R ≡ S)
role-equal = test-equals same_role role_same

pub concept-equal : (C D : Concept) → IsTrue (same_concept C D) ↔ (C ≡ D)
concept-equal = test-equals same_concept concept-same

abbrev pub same_roles : SignedRole × SignedRole → SignedRole × SignedRole → Bool
same_roles = both same_role same_role

abbrev pub same_concepts : Concept × Concept → Concept × Concept → Bool
same_concepts = both same_concept same_concept

-- a step from s to t whose letter passes
abbrev pub role_letter : (SignedRole → Bool) → Letter → Bool
role_letter f (role S) = f S
role_letter f (test A) = false

abbrev pub test_letter : (ConceptName → Bool) → Letter → Bool
test_letter f (role S) = false
test_letter f (test A) = f A

abbrev pub leads : State → State → (Letter → Bool) → Step → Bool
leads s t f (step s' l t') = let b = f l in let c = and (same_state t' t) b in and (same_state s' s) c

module _ (𝓒 : Collection) where
  -- R ≤ S as the closure of the rules, their inverses and equality
  unfoldable pub role_base : SignedRole → SignedRole → Bool
  role_base R S =
      let b = any 𝓒.role-rules (same_roles (inverse R, inverse S)) in
      let c = or (any 𝓒.role-rules (same_roles (R, S))) b in
      or (same_role R S) c

  unfoldable pub role_le : SignedRole → SignedRole → Bool
  role_le = closed same_role (signed_roles 𝓒.counts) role_base

  abbrev pub wide : Concept → Concept → Bool
  wide (Name A) (Name B) = false
  wide (Name A) (Exists S) = false
  wide (Exists R) (Name B) = false
  wide (Exists R) (Exists S) = role_le R S

  -- C ≤ D as the closure of the rules, ∃R ≤ ∃S and equality
  unfoldable pub concept_base : Concept → Concept → Bool
  concept_base C D =
      let b = wide C D in
      let c = or (any 𝓒.concept-rules (same_concepts (C, D))) b in
      or (same_concept C D) c

  unfoldable pub concept_le : Concept → Concept → Bool
  concept_le = closed same_concept (valid_concepts 𝓒.counts) concept_base

  abbrev pub test_at : Concept → State → State → Bool
  test_at B s t = any 𝓒.steps (leads s t (test_letter (λ A. concept_le B (Name A))))

  abbrev pub step_down : SignedRole → State → State → Bool
  step_down R s t = any 𝓒.steps (leads s t (role_letter (role_le R)))

  abbrev pub step_up : SignedRole → State → State → Bool
  step_up R s t = any 𝓒.steps (leads s t (role_letter (λ S. role_le R (inverse S))))

  abbrev pub lite_tests : Tests (lite 𝓒)
  lite_tests = record {
    edges = signed_roles 𝓒.counts;
    same-state = same_state;
    same-concept = same_concept;
    has-child = λ B R. concept_le B (Exists R);
    has-test = test_at;
    has-down = step_down;
    has-up = step_up;
  }

  -- where R ≤ S comes from in one link
  abbrev RoleFrom : SignedRole → SignedRole → Type 0
  RoleFrom R S = (R ≡ S) ⊎ (((R, S) ∈ 𝓒.role-rules) ⊎ ((inverse R, inverse S) ∈ 𝓒.role-rules))

  role-base-is : (R S : SignedRole) → IsTrue (role_base R S) ↔ RoleFrom R S
  unfolding role_base
  role-base-is R S =
      let same = both-same same_role same_role role_same role_same in
      test-or (role-equal R S)
      (test-or (test-listed same_roles same 𝓒.role-rules (R, S)) (test-listed same_roles same 𝓒.role-rules (inverse R, inverse S)))

  abbrev RoleLinks : SignedRole → SignedRole → Type 0
  RoleLinks = Chain (λ R S. T (role_base R S))

  role-link : (R S : SignedRole) → RoleFrom R S → RoleLinks R S
  role-link R S h = link (test-in (role-base-is R S) h)

  flip : (R S : SignedRole) → RoleFrom R S → RoleFrom (inverse R) (inverse S)
  flip R S (inl e) = inl (ap inverse e)
  flip R S (inr (inl m)) = inr (inr (rw (inverse-inverse R, inverse-inverse S) m))
  flip R S (inr (inr m)) = inr (inl m)

  flips : {R S : SignedRole} → RoleLinks R S → RoleLinks (inverse R) (inverse S)
  flips (link {x = R} {y = S} h) = role-link (inverse R) (inverse S) (flip R S (test-out (role-base-is R S) h))
  flips (chain c d) = chain (flips c) (flips d)

  role-links : {R S : SignedRole} → RoleLe 𝓒 R S → RoleLinks R S
  role-links (same {R = R}) = role-link R R (inl refl)
  role-links (then l m) = chain (role-links l) (role-links m)
  role-links (rule {R = R} {S = S} m) = role-link R S (inr (inl m))
  role-links (turned l) = flips (role-links l)

  role-mean : (R S : SignedRole) → RoleFrom R S → RoleLe 𝓒 R S
  role-mean R S (inl e) = rw e same
  role-mean R S (inr (inl m)) = rule m
  role-mean R S (inr (inr m)) = (inverses-follow 𝓒).1 (rule m)

  role-one : (R S : SignedRole) → T (role_base R S) → RoleLe 𝓒 R S
  role-one R S h = role-mean R S (test-out (role-base-is R S) h)

  links-role : {R S : SignedRole} → RoleLinks R S → RoleLe 𝓒 R S
  links-role (link {x = R} {y = S} h) = role-one R S h
  links-role (chain c d) = then (links-role c) (links-role d)

  -- steps found by their letter
  leads-is : (s t : State) (f : Letter → Bool) {P : Letter → Type 0} → ((l : Letter) → IsTrue (f l) ↔ P l)
      → IsTrue (any 𝓒.steps (leads s t f)) ↔ ((l : Letter) × (step s l t ∈ 𝓒.steps) × P l)
  leads-is s t f {P} h = test-same (test-any 𝓒.steps (λ e m. one e)) (λ w. to w.0 w.1 w.2) (λ w. (step s w.0 t, w.1, (refl, (refl, w.2))))
    where
      Leads : Step → Type 0
      Leads (step s' l t') = (s' ≡ s) × ((t' ≡ t) × P l)

      one : (e : Step) → IsTrue (leads s t f e) ↔ Leads e
      one (step s' l t') = test-and (state-equal s' s) (test-and (state-equal t' t) (h l))

      to : (e : Step) → e ∈ 𝓒.steps → Leads e → (l : Letter) × (step s l t ∈ 𝓒.steps) × P l
      to (step s' l t') m p = let e = p.0 in let g = p.1.0 in (l, rw (e, g) at m, p.1.1)

  pub role-step-is : (s t : State) (f : SignedRole → Bool) {P : SignedRole → Type 0} → ((S : SignedRole) → IsTrue (f S) ↔ P S)
      → IsTrue (any 𝓒.steps (leads s t (role_letter f))) ↔ ((S : SignedRole) × RoleStep 𝓒 s S t × P S)
  role-step-is s t f {P} h = test-same (leads-is s t (role_letter f) letter) (λ w. to w.0 w.1 w.2) (λ w. (role w.0, w.1, w.2))
    where
      By : Letter → Type 0
      By (role S) = P S
      By (test A) = ⊥

      letter : (l : Letter) → IsTrue (role_letter f l) ↔ By l
      letter (role S) = h S
      letter (test A) = (false≢true, λ p. absurd p)

      to : (l : Letter) → step s l t ∈ 𝓒.steps → By l → (S : SignedRole) × RoleStep 𝓒 s S t × P S
      to (role S) m p = (S, m, p)
      to (test A) m p = absurd p

  test-step-is : (s t : State) (f : ConceptName → Bool) {P : ConceptName → Type 0} → ((A : ConceptName) → IsTrue (f A) ↔ P A)
      → IsTrue (any 𝓒.steps (leads s t (test_letter f))) ↔ ((A : ConceptName) × TestStep 𝓒 s A t × P A)
  test-step-is s t f {P} h = test-same (leads-is s t (test_letter f) letter) (λ w. to w.0 w.1 w.2) (λ w. (test w.0, w.1, w.2))
    where
      By : Letter → Type 0
      By (role S) = ⊥
      By (test A) = P A

      letter : (l : Letter) → IsTrue (test_letter f l) ↔ By l
      letter (role S) = (false≢true, λ p. absurd p)
      letter (test A) = h A

      to : (l : Letter) → step s l t ∈ 𝓒.steps → By l → (A : ConceptName) × TestStep 𝓒 s A t × P A
      to (role S) m p = absurd p
      to (test A) m p = (A, m, p)

  module _ (ok : NumbersDeclared 𝓒) where
    role-base-to : (R S : SignedRole) → R ∈ signed_roles 𝓒.counts → T (role_base R S) → S ∈ signed_roles 𝓒.counts
    role-base-to R S m h = signed-in 𝓒.counts S (role-declared 𝓒 ok (role-one R S h) (signed-out 𝓒.counts R m))

    pub role_le-out : (R S : SignedRole) → T (role_le R S) → RoleLe 𝓒 R S
    unfolding role_le
    role_le-out R S h = links-role (closed-out same_role (signed_roles 𝓒.counts) role_base role_same.is role-base-to R S h)

    pub role_le-is : (R S : SignedRole) → SignedDeclared 𝓒.counts R → IsTrue (role_le R S) ↔ RoleLe 𝓒 R S
    unfolding role_le
    role_le-is R S d =
        test-of (role_le R S) (role_le-out R S)
        (λ l. closed_in same_role (signed_roles 𝓒.counts) role_base role_same.is role-base-to R S (signed-in 𝓒.counts R d) (role-links l))

    -- where C ≤ D comes from in one link
    abbrev ConceptFrom : Concept → Concept → Type 0
    ConceptFrom C D = (C ≡ D) ⊎ (((C, D) ∈ 𝓒.concept-rules) ⊎ IsTrue (wide C D))

    concept-base-is : (C D : Concept) → IsTrue (concept_base C D) ↔ ConceptFrom C D
    unfolding concept_base
    concept-base-is C D =
        let same = both-same same_concept same_concept concept-same concept-same in
        test-or (concept-equal C D) (test-or (test-listed same_concepts same 𝓒.concept-rules (C, D)) (test-self (wide C D)))

    abbrev ConceptLinks : Concept → Concept → Type 0
    ConceptLinks = Chain (λ C D. T (concept_base C D))

    concept-link : (C D : Concept) → ConceptFrom C D → ConceptLinks C D
    concept-link C D h = link (test-in (concept-base-is C D) h)

    wide-mean : (C D : Concept) → IsTrue (wide C D) → ConceptLe 𝓒 C D
    wide-mean (Name A) (Name B) h = absurd (false≢true h)
    wide-mean (Name A) (Exists S) h = absurd (false≢true h)
    wide-mean (Exists R) (Name B) h = absurd (false≢true h)
    wide-mean (Exists R) (Exists S) h = wider (role_le-out R S (passed (role_le R S) h))

    concept-mean : (C D : Concept) → ConceptFrom C D → ConceptLe 𝓒 C D
    concept-mean C D (inl e) = rw e same
    concept-mean C D (inr (inl m)) = rule m
    concept-mean C D (inr (inr h)) = wide-mean C D h

    concept-one : (C D : Concept) → T (concept_base C D) → ConceptLe 𝓒 C D
    concept-one C D h = concept-mean C D (test-out (concept-base-is C D) h)

    links-concept : {C D : Concept} → ConceptLinks C D → ConceptLe 𝓒 C D
    links-concept (link {x = C} {y = D} h) = concept-one C D h
    links-concept (chain c d) = then (links-concept c) (links-concept d)

    concept-links : {C D : Concept} → ConceptLe 𝓒 C D → ConceptDeclared 𝓒.counts C → ConceptLinks C D
    concept-links (same {C = C}) h = concept-link C C (inl refl)
    concept-links (then l m) h = chain (concept-links l h) (concept-links m (concept-declared 𝓒 ok l h))
    concept-links (rule {C = C} {D = D} m) h = concept-link C D (inr (inl m))
    concept-links (wider {R = R} {S = S} l) h = concept-link (Exists R) (Exists S) (inr (inr ((role_le-is R S h).1 l)))

    concept-base-to : (C D : Concept) → C ∈ valid_concepts 𝓒.counts → T (concept_base C D) → D ∈ valid_concepts 𝓒.counts
    concept-base-to C D m h = concept-in 𝓒.counts D (concept-declared 𝓒 ok (concept-one C D h) (concept-out 𝓒.counts C m))

    pub concept_le-out : (C D : Concept) → T (concept_le C D) → ConceptLe 𝓒 C D
    unfolding concept_le
    concept_le-out C D h =
        links-concept (closed-out same_concept (valid_concepts 𝓒.counts) concept_base concept-same.is concept-base-to C D h)

    pub concept_le-is : (C D : Concept) → ConceptDeclared 𝓒.counts C → IsTrue (concept_le C D) ↔ ConceptLe 𝓒 C D
    unfolding concept_le
    concept_le-is C D d =
        let concepts = valid_concepts 𝓒.counts in
        test-of (concept_le C D) (concept_le-out C D)
        (λ l.
        closed_in same_concept concepts concept_base concept-same.is concept-base-to C D (concept-in 𝓒.counts C d) (concept-links l d))

    pub lite-decides : AreTestsOf (lite 𝓒) lite_tests
    lite-decides = record {
      states-same = state-same;
      concepts-same = concept-same;
      edge_in = λ B R m h. signed-in 𝓒.counts R (concept-declared 𝓒 ok h (concept-out 𝓒.counts B m));
      child = λ B R m. concept_le-is B (Exists R) (concept-out 𝓒.counts B m);
      test = λ B s t m. test-step-is s t (λ A. concept_le B (Name A)) (λ A. concept_le-is B (Name A) (concept-out 𝓒.counts B m));
      down = λ R s t m. role-step-is s t (role_le R) (λ S. role_le-is R S (signed-out 𝓒.counts R m));
      up = λ R s t m.
          test-same
          (role-step-is s t (λ S. role_le R (inverse S)) (λ S. role_le-is R (inverse S) (signed-out 𝓒.counts R m)))
          (λ w. (inverse w.0, rw (inverse-inverse w.0) w.1, w.2)) (λ h. (inverse h.0, h.1, rw (inverse-inverse h.0) h.2));
    }
