-- What is computed as an individual's concepts, an edge and a yes is what the canonical model says.
use Rattle.std.specs.Prelude.{◌≡◌, refl, Bool, ◌↔◌, ◌⊎◌, List, IsTrue}
use Rattle.std.proofs.Common.{inl, inr, ⊎_elim, arith}
use Rattle.std.proofs.Math.Dec.{T}
use Rattle.kinds.specs.declared.ConceptName.{ConceptName}
use Rattle.kinds.specs.declared.RoleName.{RoleName}
use Rattle.kinds.specs.declared.Individual.{Individual}
use Rattle.kinds.specs.declared.State.{State}
use Rattle.kinds.specs.declared.SignedRole.{SignedRole}
use Rattle.kinds.specs.declared.Concept.{Concept}
use Rattle.kinds.specs.declared.Concept.TheVariants.{Name, Exists}
use Rattle.kinds.specs.declared.Counts.{Counts}
use Rattle.kinds.specs.declared.Ask.{Ask}
use Rattle.kinds.specs.declared.Ask.TheVariants.{Pair, From}
use Rattle.kinds.specs.Kinds.{inverse, inverse-inverse, forward, backward, individual, IndividualDeclared, RoleDeclared, SignedDeclared, ConceptDeclared}
use Rattle.kinds.specs.Asks.{AskDeclared}
use Rattle.laws.specs.Member.{◌∈◌}
use Rattle.laws.specs.Same.{both, both-same}
use Rattle.laws.specs.Truth.{test-of, test-in, test-out, test-same, test-and, test-or, test-any, test-listed}
use Rattle.laws.specs.Pairs.{pairs, pairs-in, pairs-out}
use Rattle.laws.specs.Numbers.{numbered-in}
use Rattle.laws.specs.Chain.{Chain, link, chain, closed_in, closed-out}
use Rattle.meaning.specs.Collection.{Collection, RoleStep, WellFormed}
use Rattle.meaning.specs.Orders.{RoleLe}
use Rattle.theory.specs.Run.{stop, go, one, join}
use Rattle.theory.specs.Tree.{Loop, here, tested, twice, below, along, by}
use Rattle.meaning.specs.Lite.{valid_concepts, declared_states, lite}
use Rattle.meaning.specs.Model.{Typed, named, first, second, IndividualHas, FactEdge, ahead, behind}
use Rattle.meaning.specs.Question.{Yes}
use Rattle.meaning.specs.Leaving.{Leaves}
use Rattle.meaning.specs.Asks.{IsYes}
use Rattle.theory.specs.Onward.{LeadsOn}
use Rattle.meaning.specs.Walk.{IndividualsWalk, IndividualsWalkOut}
use Rattle.meaning.proofs.LeavingLaws.{leaves↔walk}
use Rattle.theory.proofs.OnwardTests.{onward-is}
use Rattle.meaning.proofs.ModelWalk.{edge-declared, path↔individuals-walk}
use Rattle.meaning.proofs.Declared.{concept-in, concept-out, state-in, concept-declared, role-step-to, test-step-to, lite-sane}
use Rattle.meaning.proofs.LiteTests.{same_individual, same_state, individual-same, state-same, individual-equal, state-equal, concept-equal, role_le-is, concept_le-is, role-step-is, lite_tests, lite-decides}
use Rattle.meaning.proofs.Reply.{declared_individuals, fact_types, end_types, is_typed, typed_to, individual_has, joins_by, fact_edge, marked, stride, walks, reaches_in, reaches, is_final, leads_on, goes_on, out_from, leaves, is_yes}

pub individual-in : (c : Counts) (a : Individual) → IndividualDeclared c a → a ∈ declared_individuals c
unfolding declared_individuals
individual-in c a h = numbered-in individual c.individuals a.0 h

module _ (𝓒 : Collection) (ok : WellFormed 𝓒) where
  -- what the facts type of an individual, as it is looked for
  abbrev TypedBy : Individual → Concept → Type 0
  TypedBy a C =
      ((f : ConceptName × Individual) × (f ∈ 𝓒.concept-facts) × ((f.1 ≡ a) × (Name f.0 ≡ C)))
      ⊎ ((f : RoleName × Individual × Individual) × (f ∈ 𝓒.role-facts)
      × (((f.1 ≡ a) × (Exists (forward f.0) ≡ C)) ⊎ ((f.2 ≡ a) × (Exists (backward f.0) ≡ C))))

  by_typed : (a : Individual) (C : Concept) → TypedBy a C → Typed 𝓒 a C
  by_typed a C (inl (f, m, p)) = let e = p.0 in let g = p.1 in rw (← e, ← g) (named m)
  by_typed a C (inr (f, m, inl p)) = let e = p.0 in let g = p.1 in rw (← e, ← g) (first m)
  by_typed a C (inr (f, m, inr p)) = let e = p.0 in let g = p.1 in rw (← e, ← g) (second m)

  typed_by : {a : Individual} {C : Concept} → Typed 𝓒 a C → TypedBy a C
  typed_by (named {A = A} {a = a} m) = inl ((A, a), m, (refl, refl))
  typed_by (first {r = r} {a = a} {b = b} m) = inr ((r, a, b), m, inl (refl, refl))
  typed_by (second {r = r} {a = a} {b = b} m) = inr ((r, a, b), m, inr (refl, refl))

  typed-is : (a : Individual) (C : Concept) → IsTrue (is_typed 𝓒 a C) ↔ Typed 𝓒 a C
  unfolding is_typed fact_types end_types
  typed-is a C =
      test-same
      (test-or (test-any 𝓒.concept-facts (λ f m. test-and (individual-equal f.1 a) (concept-equal (Name f.0) C)))
      (test-any 𝓒.role-facts (λ f m. test-or
      (test-and (individual-equal f.1 a) (concept-equal (Exists (forward f.0)) C))
      (test-and (individual-equal f.2 a) (concept-equal (Exists (backward f.0)) C)))))
      (by_typed a C) (λ t. typed_by t)

  typed-concept : {a : Individual} {C : Concept} → Typed 𝓒 a C → ConceptDeclared 𝓒.counts C
  typed-concept (named {A = A} {a = a} m) = (ok.numbers.concept-facts (A, a) m).0
  typed-concept (first {r = r} {a = a} {b = b} m) = omega (arith, (ok.numbers.role-facts (r, a, b) m).0)
  typed-concept (second {r = r} {a = a} {b = b} m) = omega (arith, (ok.numbers.role-facts (r, a, b) m).0)

  pub individual_has-is : (a : Individual) (D : Concept) → IsTrue (individual_has 𝓒 a D) ↔ IndividualHas 𝓒 a D
  unfolding individual_has typed_to
  individual_has-is a D =
      test-same
      (test-any (valid_concepts 𝓒.counts) (λ C m. test-and (typed-is a C) (concept_le-is 𝓒 ok.numbers C D (concept-out 𝓒.counts C m))))
      (λ w. (w.0, w.2.0, w.2.1)) (λ h. (h.0, concept-in 𝓒.counts h.0 (typed-concept h.1), (h.1, h.2)))

  pub has-declared : (a : Individual) (B : Concept) → IndividualHas 𝓒 a B → ConceptDeclared 𝓒.counts B
  has-declared a B h = concept-declared 𝓒 ok.numbers h.2 (typed-concept h.1)

  -- a fact that joins two individuals by a role, as it is looked for
  abbrev JoinedBy : Individual → SignedRole → Individual → Type 0
  JoinedBy a S b = (f : RoleName × Individual × Individual) × (f ∈ 𝓒.role-facts)
      × (((f.1 ≡ a) × ((f.2 ≡ b) × RoleLe 𝓒 (forward f.0) S)) ⊎ ((f.2 ≡ a) × ((f.1 ≡ b) × RoleLe 𝓒 (forward f.0) (inverse S))))

  by_joined : (a : Individual) (S : SignedRole) (b : Individual) → JoinedBy a S b → FactEdge 𝓒 a S b
  by_joined a S b (f, m, inl p) = let e = p.0 in let g = p.1.0 in rw (← e, ← g) (ahead m p.1.1)
  by_joined a S b (f, m, inr p) =
      let e = p.0 in
      let g = p.1.0 in
      let x : FactEdge 𝓒 f.2 (inverse (inverse S)) f.1 = behind m p.1.1 in
      rw (inverse-inverse S, e, g) at x

  joined_by : {a b : Individual} {S : SignedRole} → FactEdge 𝓒 a S b → JoinedBy a S b
  joined_by (ahead {r = r} {a = a} {b = b} m l) = ((r, a, b), m, inl (refl, (refl, l)))
  joined_by (behind {r = r} {a = a} {b = b} {S = S} m l) = ((r, a, b), m, inr (refl, (refl, rw (inverse-inverse S) l)))

  pub edge-is : (a : Individual) (S : SignedRole) (b : Individual) → IsTrue (fact_edge 𝓒 a S b) ↔ FactEdge 𝓒 a S b
  unfolding fact_edge joins_by
  edge-is a S b = test-same (test-any 𝓒.role-facts (λ f m. one f (ok.numbers.role-facts f m).0)) (by_joined a S b) (λ e. joined_by e)
    where
      one : (f : RoleName × Individual × Individual) → RoleDeclared 𝓒.counts f.0 → IsTrue (joins_by 𝓒 a S b f)
          ↔ (((f.1 ≡ a) × ((f.2 ≡ b) × RoleLe 𝓒 (forward f.0) S)) ⊎ ((f.2 ≡ a) × ((f.1 ≡ b) × RoleLe 𝓒 (forward f.0) (inverse S))))
      one f d =
          let h : SignedDeclared 𝓒.counts (forward f.0) = omega (arith, d) in
          test-or (test-and (individual-equal f.1 a) (test-and (individual-equal f.2 b) (role_le-is 𝓒 ok.numbers (forward f.0) S h)))
          (test-and (individual-equal f.2 a) (test-and (individual-equal f.1 b) (role_le-is 𝓒 ok.numbers (forward f.0) (inverse S) h)))

  pub loop-state : {B : Concept} {s t : State} → Loop (lite 𝓒) B s t → s ∈ declared_states 𝓒.counts → t ∈ declared_states 𝓒.counts
  loop-state here m = m
  loop-state (tested {s = s} {t = t} e) m = test-step-to 𝓒 ok.numbers s e.0 t e.1
  loop-state (twice l k) m = loop-state k (loop-state l m)
  loop-state (below {u = u} {v = v} c d l e) m = role-step-to 𝓒 ok.numbers u (inverse e.0) v e.1

  -- over any sheet that holds the loops
  module _ (f : State → State → Concept → Bool)
      (mark-is : (s t : State) (B : Concept) → s ∈ declared_states 𝓒.counts → B ∈ valid_concepts 𝓒.counts
      → IsTrue (f s t B) ↔ Loop (lite 𝓒) B s t) where
    abbrev Node : Type 0
    Node = Individual × State

    abbrev nodes : List Node
    nodes = pairs (declared_individuals 𝓒.counts) (declared_states 𝓒.counts)

    known : (p : Node) → p ∈ nodes → (p.0 ∈ declared_individuals 𝓒.counts) × (p.1 ∈ declared_states 𝓒.counts)
    known p m = pairs-out (declared_individuals 𝓒.counts) (declared_states 𝓒.counts) m

    abbrev Links : Node → Node → Type 0
    Links p q = T (stride 𝓒 f p q)

    -- a stride, as it is looked for
    abbrev StrideBy : Node → Node → Type 0
    StrideBy p q =
        ((p.0 ≡ q.0) × ((p.1 ≡ q.1)
        ⊎ ((B : Concept) × (B ∈ valid_concepts 𝓒.counts) × (Loop (lite 𝓒) B p.1 q.1 × IndividualHas 𝓒 p.0 B))))
        ⊎ ((S : SignedRole) × RoleStep 𝓒 p.1 S q.1 × FactEdge 𝓒 p.0 S q.0)

    stride-is : (p q : Node) → p.1 ∈ declared_states 𝓒.counts → IsTrue (stride 𝓒 f p q) ↔ StrideBy p q
    unfolding stride marked
    stride-is p q m =
        test-or
        (test-and (individual-equal p.0 q.0) (test-or (state-equal p.1 q.1)
        (test-any (valid_concepts 𝓒.counts) (λ B d. test-and (mark-is p.1 q.1 B m d) (individual_has-is p.0 B)))))
        (role-step-is 𝓒 p.1 q.1 (λ S. fact_edge 𝓒 p.0 S q.0) (λ S. edge-is p.0 S q.0))

    abbrev Found : Node → Node → Type 0
    Found p q = (q ∈ nodes) × IndividualsWalk 𝓒 p.0 p.1 q.0 q.1

    stride-found : (p q : Node) → p ∈ nodes → StrideBy p q → Found p q
    stride-found p q m (inl (e, inl g)) = let k = known p m in (pairs-in (rw e at k.0) (rw g at k.1), rw (e, g) stop)
    stride-found p q m (inl (e, inr (B, d, h))) =
        let k = known p m in
        (pairs-in (rw e at k.0) (loop-state h.0 k.1), rw (← e) (one (by B h.1 h.0)))
    stride-found p q m (inr (S, w, e)) =
        (pairs-in (individual-in 𝓒.counts q.0 (edge-declared 𝓒 ok e).1) (role-step-to 𝓒 ok.numbers p.1 S q.1 w), one (along (S, w, e)))

    stride-out : (p q : Node) → p ∈ nodes → Links p q → Found p q
    stride-out p q m h = stride-found p q m (test-out (stride-is p q (known p m).1) h)

    chain→walk : {p q : Node} → Chain Links p q → p ∈ nodes → Found p q
    chain→walk (link {x = p} {y = q} h) m = stride-out p q m h
    chain→walk (chain c d) m =
        let x = chain→walk c m in
        let y = chain→walk d x.0 in
        (y.0, join x.1 y.1)

    linked : (p q : Node) → p.1 ∈ declared_states 𝓒.counts → StrideBy p q → Chain Links p q
    linked p q m h = link (test-in (stride-is p q m) h)

    walk→chain : {a b : Individual} {s t : State} → IndividualsWalk 𝓒 a s b t → s ∈ declared_states 𝓒.counts → Chain Links (a, s) (b, t)
    walk→chain (stop {x = a} {s = s}) m = linked (a, s) (a, s) m (inl (refl, inl refl))
    walk→chain (go (along {a = a} {b = b} {s = s} {t = t} e) w) m =
        chain {y = (b, t)} (linked (a, s) (b, t) m (inr e)) (walk→chain w (role-step-to 𝓒 ok.numbers s e.0 t e.1))
    walk→chain (go (by {a = a} {s = s} {t = t} B e l) w) m =
        chain {y = (a, t)} (linked (a, s) (a, t) m (inl (refl, inr (B, concept-in 𝓒.counts B (has-declared a B e), (l, e)))))
        (walk→chain w (loop-state l m))

    stride-to : (p q : Node) → p ∈ nodes → Links p q → q ∈ nodes
    stride-to p q m h = (stride-out p q m h).0

    walks-is : (a b : Individual) (s t : State) → a ∈ declared_individuals 𝓒.counts → s ∈ declared_states 𝓒.counts
        → IsTrue (walks 𝓒 f (a, s) (b, t)) ↔ IndividualsWalk 𝓒 a s b t
    unfolding walks
    walks-is a b s t i m =
        let eq = both same_individual same_state in
        let same = both-same same_individual same_state individual-same state-same in
        test-of (walks 𝓒 f (a, s) (b, t))
        (λ k. (chain→walk (closed-out eq nodes (stride 𝓒 f) same.is stride-to (a, s) (b, t) k) (pairs-in i m)).1)
        (λ w. closed_in eq nodes (stride 𝓒 f) same.is stride-to (a, s) (b, t) (pairs-in i m) (walk→chain w m))

    abbrev start : State
    start = 𝓒.counts.start

    start-in : start ∈ declared_states 𝓒.counts
    start-in = state-in 𝓒.counts start ok.counts.start

    -- what is computed as yes is yes in the canonical model
    pub reaches-is : (a b : Individual) → IndividualDeclared 𝓒.counts a → IsTrue (reaches 𝓒 f a b) ↔ Yes 𝓒 a b
    unfolding reaches reaches_in
    reaches-is a b i =
        test-any 𝓒.finals (λ t k.
        let w = path↔individuals-walk 𝓒 ok a b start t i in
        test-same (walks-is a b start t (individual-in 𝓒.counts a i) start-in) w.1 w.0)

    -- what is computed as the way on is that
    final-is : (s : State) → IsTrue (is_final 𝓒 s) ↔ (s ∈ 𝓒.finals)
    unfolding is_final
    final-is s = test-listed same_state state-same 𝓒.finals s

    leads_on-is : (s : State) (B : Concept) → s ∈ declared_states 𝓒.counts → B ∈ valid_concepts 𝓒.counts
        → IsTrue (leads_on 𝓒 f s B) ↔ LeadsOn (lite 𝓒) (λ t. t ∈ 𝓒.finals) s B
    leads_on-is =
        onward-is (lite 𝓒) (lite_tests 𝓒) f (is_final 𝓒) (lite-decides 𝓒 ok.numbers) (lite-sane 𝓒 ok.numbers) (λ s t B. Loop (lite 𝓒) B s t)
        (λ t. t ∈ 𝓒.finals) mark-is (λ s t B m l. loop-state l m) final-is

    -- what is computed as a path that leaves is one in the canonical model
    pub leaves-is : (a : Individual) → IndividualDeclared 𝓒.counts a → IsTrue (leaves 𝓒 f a) ↔ Leaves 𝓒 a
    unfolding leaves out_from goes_on
    leaves-is a i =
        let n = individual-in 𝓒.counts a i in
        let w = leaves↔walk 𝓒 ok a i in
        test-same
        (test-any nodes (λ p k. test-and (walks-is a p.0 start p.1 n start-in) (test-or (final-is p.1)
        (test-any (valid_concepts 𝓒.counts) (λ B d. test-and (individual_has-is p.0 B) (leads_on-is p.1 B (known p k).1 d))))))
        (λ v. w.1 (record { to = v.0.0; last = v.0.1; walk = v.2.0; out = ⊎_elim (λ h. inl h) (λ h. inr (h.0, h.2.0, h.2.1)) v.2.1 }))
        (λ v. back n (w.0 v))
      where
        back : a ∈ declared_individuals 𝓒.counts → IndividualsWalkOut 𝓒 a start
            → (p : Node) × (p ∈ nodes) × (IndividualsWalk 𝓒 a start p.0 p.1 × ((p.1 ∈ 𝓒.finals) ⊎ ((B : Concept)
            × (B ∈ valid_concepts 𝓒.counts) × (IndividualHas 𝓒 p.0 B × LeadsOn (lite 𝓒) (λ t. t ∈ 𝓒.finals) p.1 B))))
        back n w = (
          (w.to, w.last),
          (chain→walk (walk→chain w.walk start-in) (pairs-in n start-in)).0,
          (w.walk, ⊎_elim (λ h. inl h) (λ h. inr (h.0, concept-in 𝓒.counts h.0 (has-declared w.to h.0 h.1), (h.1, h.2))) w.out),
        )

    pub yes-is : (ask : Ask) → AskDeclared 𝓒.counts ask → IsTrue (is_yes 𝓒 f ask) ↔ IsYes 𝓒 ask
    yes-is (Pair a b) d = reaches-is a b d.0
    yes-is (From a) d = leaves-is a d
