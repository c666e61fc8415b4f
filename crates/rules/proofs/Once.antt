-- The contracts of `rules` leave one answer each. They say no lengths: those are of the types.
use Rattle.std.specs.Prelude.{◌≡◌, List, [], ℕ, ◌<◌, length}
use Rattle.std.proofs.Common.{sym, ◌∙◌, ap, arith, ext_get_or}
use Rattle.kinds.specs.declared.Counts.{Counts}
use Rattle.kinds.specs.Kinds.{most_states, state, concept_of, flip, StateDeclared, ConceptDeclared}
use Rattle.meaning.specs.Collection.{Step}
use Rattle.sets.specs.Rows.{no_concepts, no_roles, no_states}
use Rattle.sets.specs.declared.concepts.ConceptSet.{ConceptSet}
use Rattle.sets.specs.declared.roles.RoleSet.{RoleSet}
use Rattle.sets.specs.declared.states.StateSet.{StateSet}
use Rattle.sets.proofs.Once.{set-once}
use Rattle.rules.specs.declared.rows.Edge.{Edge}
use Rattle.rules.specs.declared.rows.Rows.{Rows}
use Rattle.rules.specs.Rows.{most_concepts, most_edges, no_edge, May, IsMarkable}
use Rattle.rules.specs.Steps.{Among}
use Rattle.sets.specs.Relations.{relation_at}
use Rattle.rules.specs.Transitions.{Transition, AreTransitions}
use Rattle.rules.specs.Meant.{TransitionsLong}
use Rattle.rules.specs.Made.{IsStates, IsConcepts, Passes, AreTests, AreEdgesTo, AreEdges}

same_states : (x y : StateSet) → x.0 ≡ y.0 → x ≡ y
same_states x y e = ap (λ (n : ℕ). record { 0 = n }) e

same_concepts : (x y : ConceptSet) → x.0 ≡ y.0 → x ≡ y
same_concepts x y e = ap (λ (n : ℕ). record { 0 = n }) e

same_roles : (x y : RoleSet) → x.0 ≡ y.0 → x ≡ y
same_roles x y e = ap (λ (n : ℕ). record { 0 = n }) e

-- THEOREM: what may be marked at a pair of states is one set
pub markable_once : (rows : Rows) (s t m n : ℕ) → IsMarkable rows s t m → IsMarkable rows s t n → m ≡ n
markable_once rows s t m n a b = set-once (May rows s t) m n a.member b.member

-- THEOREM: the transitions of some steps over some order are one
pub transitions_once : (steps : List Step) (above : List RoleSet) (v w : List (List StateSet)) → AreTransitions steps above v
    → AreTransitions steps above w → TransitionsLong v → TransitionsLong w → v ≡ w
transitions_once steps above v w a b p q = ext_get_or [] v w (p.long ∙ sym q.long) (λ R h. one R (omega (arith, p.long)))
  where
    one : (R : ℕ) → R < most_edges → relation_at v R ≡ relation_at w R
    one R h =
        ext_get_or no_states (relation_at v R) (relation_at w R) (p.each R h ∙ sym (q.each R h)) (λ s l.
        same_states _ _ (set-once (Transition steps above R s) _ _ (λ t. a.at R s t h) (λ t. b.at R s t h)))

-- THEOREM: and so are the rows of a collection
pub tests_once : (steps : List Step) (below v w : List ConceptSet) → AreTests steps below v → AreTests steps below w → length v ≡ length w
    → v ≡ w
tests_once steps below v w a b l =
    ext_get_or no_concepts v w l (λ q h. same_concepts _ _ (set-once (Passes (Among steps) below q) _ _ (a.at q) (b.at q)))

pub edges_to_once : (v w : List RoleSet) → AreEdgesTo v → AreEdgesTo w → length v ≡ most_edges → length w ≡ most_edges → v ≡ w
edges_to_once v w a b p q =
    ext_get_or no_roles v w (p ∙ sym q) (λ k h.
    same_roles _ _
    (set-once (λ e. (e < most_edges) × (k ≡ flip e)) _ _ (λ e. a.at k e (omega (arith, p))) (λ e. b.at k e (omega (arith, p)))))

edge_with : ConceptSet → List StateSet → List StateSet → Edge
edge_with p d u = record { parents = p; down = d; up = u }

same_edge : (e f : Edge) → e.parents ≡ f.parents → e.down ≡ f.down → e.up ≡ f.up → e ≡ f
unfolding edge_with
same_edge e f p d u = ap (λ x. edge_with x e.down e.up) p ∙ ap (λ x. edge_with f.parents x e.up) d ∙ ap
    (λ x. edge_with f.parents f.down x) u

pub edges_once : (below : List ConceptSet) (transitions : List (List StateSet)) (v w : List Edge) → AreEdges below transitions v
    → AreEdges below transitions w → length v ≡ most_edges → length w ≡ most_edges → v ≡ w
edges_once below transitions v w a b p q =
    ext_get_or no_edge v w (p ∙ sym q) (λ R h.
    let x = a.at R (omega (arith, p)) in
    let y = b.at R (omega (arith, p)) in
    same_edge _ _ (x.parents ∙ sym y.parents) (x.down ∙ sym y.down) (x.up ∙ sym y.up))

pub states_once : (c : Counts) (m n : ℕ) → IsStates c most_states m → IsStates c most_states n → m ≡ n
states_once c m n a b = set-once (λ s. (s < most_states) × StateDeclared c (state s)) m n a.member b.member

pub concepts_once : (c : Counts) (m n : ℕ) → IsConcepts c most_concepts m → IsConcepts c most_concepts n → m ≡ n
concepts_once c m n a b = set-once (λ B. (B < most_concepts) × ConceptDeclared c (concept_of B)) m n a.member b.member
