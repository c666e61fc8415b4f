-- The rows that are made of a collection's orders and steps say what the collection says.
use Rattle.std.specs.Prelude.{◌≡◌, refl, ◌↔◌, List, ℕ, ◌+◌, ◌<◌}
use Rattle.std.proofs.Common.{ap, arith}
use Rattle.kinds.specs.declared.State.{State}
use Rattle.kinds.specs.declared.SignedRole.{SignedRole}
use Rattle.kinds.specs.declared.ConceptName.{ConceptName}
use Rattle.kinds.specs.declared.Concept.{Concept}
use Rattle.kinds.specs.declared.Concept.TheVariants.{Name, Exists}
use Rattle.kinds.specs.declared.Counts.{Counts}
use Rattle.kinds.specs.Kinds.{most_states, base, flip, inverse, inverse-inverse, inverse-declared, state, signed, concept_name, concept_of}
use Rattle.kinds.specs.Kinds.{number_of, number-concept, concept-number, role-concept, CountsFit, SignedDeclared, ConceptDeclared}
use Rattle.laws.specs.Member.{◌∈◌}
use Rattle.meaning.specs.Collection.{Collection, step, role, test, NumbersDeclared}
use Rattle.meaning.specs.Lite.{valid_concepts, declared_states, TestAt, StepDown, StepUp}
use Rattle.meaning.specs.Orders.{turned}
use Rattle.meaning.proofs.Declared.{state-in, state-out, concept-in, concept-out}
use Rattle.sets.specs.Bits.{members}
use Rattle.sets.specs.declared.concepts.ConceptSet.{ConceptSet}
use Rattle.sets.specs.declared.roles.RoleSet.{RoleSet}
use Rattle.sets.specs.declared.states.StateSet.{StateSet}
use Rattle.rules.specs.declared.rows.Rows.{Rows}
use Rattle.rules.specs.Rows.{most_concepts, most_edges, pair, At, Lists, Relates, edge}
use Rattle.rules.specs.Steps.{Among}
use Rattle.sets.specs.Relations.{relation_at}
use Rattle.rules.specs.Transitions.{Transition, AreTransitions}
use Rattle.rules.specs.Made.{IsStates, IsConcepts, Passes, AreTests, AreEdgesTo, IsEdge}
use Rattle.rules.specs.Meant.{AreMade}
use Rattle.rules.specs.RowsOf.{AreAbove, AreBelow, LeadDown, EdgeOf, RowsOf}
use Rattle.rules.proofs.Members.{member_in, member_out}

concept_low : (c : Counts) → CountsFit c → (C : Concept) → ConceptDeclared c C → number_of C < most_concepts
unfolding number_of
concept_low c fit (Name A) h = let l = fit.names in omega arith
concept_low c fit (Exists R) h = let l = fit.roles in omega arith

module _ (𝓒 : Collection) (fit : CountsFit 𝓒.counts) (ok : NumbersDeclared 𝓒) where
  states_mean : (set : ℕ) → IsStates 𝓒.counts most_states set → (s : ℕ)
      → (s ∈ members most_states set) ↔ (state s ∈ declared_states 𝓒.counts)
  states_mean set i s = (
    λ m. let w = member_out most_states set s m in state-in 𝓒.counts (state s) ((i.member s).0 w.1).1,
    λ m. let d = state-out 𝓒.counts (state s) m in let l : s < most_states = (let f = fit.states in omega arith) in
        member_in most_states set s l ((i.member s).1 (l, d)),
  )

  concepts_mean : (set : ℕ) → IsConcepts 𝓒.counts most_concepts set → (B : ℕ)
      → (B ∈ members most_concepts set) ↔ (concept_of B ∈ valid_concepts 𝓒.counts)
  concepts_mean set i B = (
    λ m. let w = member_out most_concepts set B m in concept-in 𝓒.counts (concept_of B) ((i.member B).0 w.1).1,
    λ m.
        let d = concept-out 𝓒.counts (concept_of B) m in
        let l : B < most_concepts = (let k = concept_low 𝓒.counts fit (concept_of B) d in rw (number-concept B) at k) in
        member_in most_concepts set B l ((i.member B).1 (l, d)),
  )

  name_is : (s t : State) (A : ConceptName) → step s (test A) t ∈ 𝓒.steps → (A.0 < base) × (concept_of A.0 ≡ Name A)
  unfolding number_of
  name_is s t A m = let d = (ok.steps (step s (test A) t) m).1 in
      (let f = fit.names in omega arith, concept-number 𝓒.counts fit.names (Name A) d)

  module _ (below : List ConceptSet) (o : AreBelow 𝓒 below) where
    tests_mean : (tests : List ConceptSet) → AreTests 𝓒.steps below tests → (s t B : ℕ) → s < most_states → t < most_states
        → B < most_concepts
        → At tests (pair s t) B ↔ TestAt 𝓒 (concept_of B) (state s) (state t)
    tests_mean tests a s t B hs ht hB = (λ h. to ((a.at (pair s t) B).0 h), λ x. (a.at (pair s t) B).1 (from x))
      where
        to : Passes (Among 𝓒.steps) below (pair s t) B → TestAt 𝓒 (concept_of B) (state s) (state t)
        to p =
            let q = p.there in
            let hf = p.from_low in
            let hl = p.to_low in
            let e : p.s ≡ s = omega arith in
            let g : p.t ≡ t = omega arith in
            let m = p.made in
            let n = name_is (state p.s) (state p.t) (concept_name p.name) m in
            let l = (o.concepts p.name B p.name_low hB).0 p.follows in
            (concept_name p.name, rw (e, g) at m, rw n.1 at l)

        from : TestAt 𝓒 (concept_of B) (state s) (state t) → Passes (Among 𝓒.steps) below (pair s t) B
        from (A, m, l) =
            let n = name_is (state s) (state t) A m in
            let k = n.0 in
            let low : A.0 < most_concepts = omega arith in
            record {
              s = s;
              t = t;
              name = A.0;
              from_low = hs;
              to_low = ht;
              name_low = low;
              there = refl;
              made = m;
              follows =
                  (o.concepts A.0 B low hB).1 (rw n.1 l);
            }

  module _ (above : List RoleSet) (r : AreAbove 𝓒 above) where
    -- THEOREM: where the transitions of a signed role lead a step down does
    pub transitions_mean : (transitions : List (List StateSet)) → AreTransitions 𝓒.steps above transitions → LeadDown 𝓒 transitions
    transitions_mean transitions w R s t h = (λ x. to ((w.at R s t h).0 x), λ x. (w.at R s t h).1 (from x))
      where
        to : Transition 𝓒.steps above R s t → StepDown 𝓒 (signed R) (state s) (state t)
        to v = (signed v.by, v.leads.made, (r.roles R v.by h v.leads.by_low).0 v.follows)

        from : StepDown 𝓒 (signed R) (state s) (state t) → Transition 𝓒.steps above R s t
        from (S, m, l) =
            let d = ok.steps (step (state s) (role S) (state t)) m in
            let a = d.0 in
            let k = d.1 in
            let b = d.2 in
            let f = fit.states in
            let low : S.0 < most_edges = (let g = fit.roles in omega arith) in
            record {
              by = S.0;
              leads = record { by_low = low; from_low = omega arith; to_low = omega arith; made = m };
              follows =
                  (r.roles R S.0 h low).1 l;
            }

  -- back up an edge is down its inverse
  up_to : (R : SignedRole) (s t : State) → StepDown 𝓒 (inverse R) s t → StepUp 𝓒 R s t
  up_to R s t (S, m, l) = let k = turned l in (inverse S, rw (inverse-inverse S) m, rw (inverse-inverse R) at k)

  up_from : (R : SignedRole) (s t : State) → StepUp 𝓒 R s t → StepDown 𝓒 (inverse R) s t
  up_from R s t (U, m, l) = (inverse U, m, turned l)

  up_mean : (transitions : List (List StateSet)) → LeadDown 𝓒 transitions → (R s t : ℕ) → R < most_edges
      → Relates (relation_at transitions (flip R)) s t ↔ StepUp 𝓒 (signed R) (state s) (state t)
  unfolding inverse
  up_mean transitions w R s t h =
      let d = w (flip R) s t (omega arith) in
      (λ x. up_to (signed R) (state s) (state t) (d.0 x), λ x. d.1 (up_from (signed R) (state s) (state t) x))

  edges_to_mean : (edges_to : List RoleSet) → AreEdgesTo edges_to → (R e : ℕ) → R < most_edges
      → Lists edges_to R e ↔ ((e < most_edges) × (signed R ≡ inverse (signed e)))
  unfolding inverse
  edges_to_mean edges_to a R e h = (
    λ x. let w = (a.at R e h).0 x in (w.0, ap signed w.1),
    λ x. (a.at R e h).1 (x.0, ap (λ (r : SignedRole). r.0) x.1),
  )

  module _ (below : List ConceptSet) (o : AreBelow 𝓒 below) (transitions : List (List StateSet)) (w : LeadDown 𝓒 transitions)
      (rows : Rows) where
    edge_means : (R : ℕ) → R < most_edges → IsEdge below transitions R (edge rows R) → EdgeOf 𝓒 rows R
    edge_means R h i =
        let p = i.parents in
        let d = i.down in
        let u = i.up in
        record {
          parents = λ B l. rw p (rw (role-concept R) at (o.concepts (base + R) B (omega arith) l));
          down = λ s t hs ht. rw d (w R s t h);
          up = λ s t hs ht. rw u (up_mean transitions w R s t h);
        }

    -- THEOREM: the rows that are made say what the collection says
    pub rows_of : AreMade 𝓒 below transitions rows → RowsOf 𝓒 rows
    rows_of m = record {
      states = states_mean rows.states.0 m.states;
      concepts = concepts_mean rows.concepts.0 m.concepts;
      tests = tests_mean below o rows.tests m.tests;
      edges_to = edges_to_mean rows.edges_to m.edges_to;
      edges = λ R h. edge_means R h (m.edges.at R h);
      low = λ R v.
          let i = inverse-declared 𝓒.counts (inverse R) (concept-out 𝓒.counts (Exists (inverse R)) v) in
          let d : SignedDeclared 𝓒.counts R = rw (inverse-inverse R) at i in
          let f = fit.roles in
          omega arith;
    }
