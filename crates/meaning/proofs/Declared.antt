-- What is declared stands in its list, and what stands there is declared; how long the lists are; what rules lead to is declared.
use Rattle.std.specs.Prelude.{◌≡◌, ◌+◌, ◌*◌, length}
use Rattle.std.proofs.Common.{inl, inr, length-append}
use mathlib.Core.List.Memᴰ
use mathlib.Core.List.{map}
use Rattle.std.proofs.Math.ListN.{length-map}
use Rattle.kinds.specs.declared.ConceptName.{ConceptName}
use Rattle.kinds.specs.declared.State.{State}
use Rattle.kinds.specs.declared.SignedRole.{SignedRole}
use Rattle.kinds.specs.declared.Concept.{Concept}
use Rattle.kinds.specs.declared.Concept.TheVariants.{Name, Exists}
use Rattle.kinds.specs.declared.Counts.{Counts}
use Rattle.kinds.specs.Kinds.{inverse, inverse-inverse, inverse-declared, concept_name, signed, state, SignedDeclared, StateDeclared, ConceptDeclared}
use Rattle.laws.specs.Member.{◌∈◌, map-in, map-out}
use Rattle.laws.specs.Numbers.{numbered, numbered-in, numbered-out, length-numbered}
use Rattle.meaning.specs.Collection.{Collection, role, test, step, NumbersDeclared, RoleStep, TestStep}
use Rattle.meaning.specs.Orders.{RoleLe, ConceptLe, same, then, rule, turned, wider}
use Rattle.theory.specs.Kind.{Sane}
use Rattle.meaning.specs.Lite.{signed_roles, valid_concepts, declared_states, lite}

module _ (c : Counts) where
  pub signed-in : (R : SignedRole) → SignedDeclared c R → R ∈ signed_roles c
  unfolding signed_roles
  signed-in R h = numbered-in signed (2 * c.roles) R.0 h

  pub signed-out : (R : SignedRole) → R ∈ signed_roles c → SignedDeclared c R
  unfolding signed_roles
  signed-out R m = let w = numbered-out signed (2 * c.roles) m in rw w.2 w.1

  pub state-in : (s : State) → StateDeclared c s → s ∈ declared_states c
  unfolding declared_states
  state-in s h = numbered-in state c.states s.0 h

  pub state-out : (s : State) → s ∈ declared_states c → StateDeclared c s
  unfolding declared_states
  state-out s m = let w = numbered-out state c.states m in rw w.2 w.1

  pub concept-in : (C : Concept) → ConceptDeclared c C → C ∈ valid_concepts c
  unfolding valid_concepts
  concept-in (Name A) h = Memᴰ.append_left (map Exists (signed_roles c)) (map-in Name (numbered-in concept_name c.names A.0 h))
  concept-in (Exists R) h = Memᴰ.append_right (map Name (numbered concept_name c.names)) (map-in Exists (signed-in R h))

  pub concept-out : (C : Concept) → C ∈ valid_concepts c → ConceptDeclared c C
  unfolding valid_concepts
  concept-out C m =
      elim (Memᴰ.append_cases (map Name (numbered concept_name c.names)) m) [
        | inl k ↦
            let w = map-out Name (numbered concept_name c.names) k in
            let v = numbered-out concept_name c.names w.1 in
            rw (w.2, v.2) v.1
        | inr k ↦ let w = map-out Exists (signed_roles c) k in rw w.2 (signed-out w.0 w.1)
      ]

  pub concepts-count : length (valid_concepts c) ≡ c.names + 2 * c.roles
  unfolding valid_concepts signed_roles
  concepts-count = simp (length-append, length-map, length-numbered)

  pub states-count : length (declared_states c) ≡ c.states
  unfolding declared_states
  states-count = length-numbered state c.states

module _ (𝓒 : Collection) (ok : NumbersDeclared 𝓒) where
  pub role-declared : {R S : SignedRole} → RoleLe 𝓒 R S → SignedDeclared 𝓒.counts R → SignedDeclared 𝓒.counts S
  role-declared same h = h
  role-declared (then l m) h = role-declared m (role-declared l h)
  role-declared (rule {R = R} {S = S} m) h = (ok.role-rules (R, S) m).1
  role-declared (turned {R = R} {S = S} l) h =
      let k = inverse-declared 𝓒.counts (inverse R) h in
      inverse-declared 𝓒.counts S (role-declared l (rw (inverse-inverse R) at k))

  pub concept-declared : {C D : Concept} → ConceptLe 𝓒 C D → ConceptDeclared 𝓒.counts C → ConceptDeclared 𝓒.counts D
  concept-declared same h = h
  concept-declared (then l m) h = concept-declared m (concept-declared l h)
  concept-declared (rule {C = C} {D = D} m) h = (ok.concept-rules (C, D) m).1
  concept-declared (wider l) h = role-declared l h

  -- and what lies below what is declared
  pub role-above-declared : {R S : SignedRole} → RoleLe 𝓒 R S → SignedDeclared 𝓒.counts S → SignedDeclared 𝓒.counts R
  role-above-declared same h = h
  role-above-declared (then l m) h = role-above-declared l (role-above-declared m h)
  role-above-declared (rule {R = R} {S = S} m) h = (ok.role-rules (R, S) m).0
  role-above-declared (turned {R = R} {S = S} l) h =
      let k = inverse-declared 𝓒.counts (inverse S) h in
      inverse-declared 𝓒.counts R (role-above-declared l (rw (inverse-inverse S) at k))

  pub concept-above-declared : {C D : Concept} → ConceptLe 𝓒 C D → ConceptDeclared 𝓒.counts D → ConceptDeclared 𝓒.counts C
  concept-above-declared same h = h
  concept-above-declared (then l m) h = concept-above-declared l (concept-above-declared m h)
  concept-above-declared (rule {C = C} {D = D} m) h = (ok.concept-rules (C, D) m).0
  concept-above-declared (wider l) h = role-above-declared l h

  pub role-step-to : (s : State) (S : SignedRole) (t : State) → RoleStep 𝓒 s S t → t ∈ declared_states 𝓒.counts
  role-step-to s S t m = state-in 𝓒.counts t (ok.steps (step s (role S) t) m).2

  pub test-step-to : (s : State) (A : ConceptName) (t : State) → TestStep 𝓒 s A t → t ∈ declared_states 𝓒.counts
  test-step-to s A t m = state-in 𝓒.counts t (ok.steps (step s (test A) t) m).2

  pub lite-sane : Sane (lite 𝓒)
  lite-sane = record {
    end-in = λ B R m h. concept-in 𝓒.counts (Exists (inverse R)) (inverse-declared 𝓒.counts R (concept-declared h (concept-out 𝓒.counts B m)));
    test_in = λ B s t h. test-step-to s h.0 t h.1;
    down-in = λ R s t h. role-step-to s h.0 t h.1;
    up_in = λ R s t h. role-step-to s (inverse h.0) t h.1;
  }
