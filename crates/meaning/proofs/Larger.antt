-- A larger collection: its canonical model has every path and every contradiction of the smaller one's.
use Rattle.std.specs.Prelude.{refl}
use Rattle.kinds.specs.declared.Individual.{Individual}
use Rattle.kinds.specs.declared.State.{State}
use Rattle.kinds.specs.declared.SignedRole.{SignedRole}
use Rattle.kinds.specs.declared.Concept.{Concept}
use Rattle.kinds.specs.declared.Concept.TheVariants.{Name, Exists}
use Rattle.kinds.specs.Kinds.{IndividualDeclared}
use Rattle.meaning.specs.Collection.{Collection, step, role, WellFormed}
use Rattle.meaning.specs.Orders.{RoleLe, ConceptLe, same, then, rule, turned, wider}
use Rattle.theory.specs.Tree.{root, ◌▹◌}
use Rattle.meaning.specs.Model.{HasConcept, Belongs, bare, grown, ModelEdge, fact, child, parent, individuals, canonical, Element, Typed, named, first, second, IndividualHas, FactEdge, ahead, behind, Contradiction, at-element, at_pair}
use Rattle.theory.specs.Run.{Run, one, carry}
use Rattle.meaning.specs.Question.{PathStep, along-role, at_name, Yes}
use Rattle.meaning.specs.Leaving.{Leaves}
use Rattle.theory.specs.Grows.{Grows}
use Rattle.meaning.specs.Demands.{Larger}
use Rattle.theory.proofs.GrowthLaws.{walk-grows}
use Rattle.meaning.specs.Lite.{lite}
use Rattle.meaning.specs.Walk.{Near, IndividualsWalk}
use Rattle.meaning.proofs.ModelWalk.{path↔individuals-walk}
use Rattle.meaning.proofs.Clash.{typed-declared}

module _ {𝓒 𝓓 : Collection} (more : Larger 𝓒 𝓓) where
  pub role-grows : {R S : SignedRole} → RoleLe 𝓒 R S → RoleLe 𝓓 R S
  role-grows same = same
  role-grows (then l m) = then (role-grows l) (role-grows m)
  role-grows (rule {R = R} {S = S} m) = rule (more.role-rules (R, S) m)
  role-grows (turned l) = turned (role-grows l)

  pub concept-grows : {C D : Concept} → ConceptLe 𝓒 C D → ConceptLe 𝓓 C D
  concept-grows same = same
  concept-grows (then l m) = then (concept-grows l) (concept-grows m)
  concept-grows (rule {C = C} {D = D} m) = rule (more.concept-rules (C, D) m)
  concept-grows (wider l) = wider (role-grows l)

  typed-grows : {a : Individual} {C : Concept} → Typed 𝓒 a C → Typed 𝓓 a C
  typed-grows (named {A = A} {a = a} m) = named (more.concept-facts (A, a) m)
  typed-grows (first {r = r} {a = a} {b = b} m) = first (more.role-facts (r, a, b) m)
  typed-grows (second {r = r} {a = a} {b = b} m) = second (more.role-facts (r, a, b) m)

  individual-grows : (a : Individual) (D : Concept) → IndividualHas 𝓒 a D → IndividualHas 𝓓 a D
  individual-grows a D h = (h.0, typed-grows h.1, concept-grows h.2)

  fact-grows : {a b : Individual} {S : SignedRole} → FactEdge 𝓒 a S b → FactEdge 𝓓 a S b
  fact-grows (ahead {r = r} {a = a} {b = b} m l) = ahead (more.role-facts (r, a, b) m) (role-grows l)
  fact-grows (behind {r = r} {a = a} {b = b} m l) = behind (more.role-facts (r, a, b) m) (role-grows l)

  abbrev pub lite-grows : Grows (lite 𝓒) (lite 𝓓)
  lite-grows = record {
    con = λ B. B;
    state = λ s. s;
    edge = λ R. R;
    ends = λ R. refl;
    children = λ B R h. concept-grows h;
    tests = λ B s t h. (h.0, more.steps _ h.1, concept-grows h.2);
    downs = λ R s t h. (h.0, more.steps _ h.1, role-grows h.2);
    ups = λ R s t h. (h.0, more.steps _ h.1, role-grows h.2);
  }

  near-grows : (a b : Individual) (s t : State) → Near 𝓒 (individuals 𝓒) a s b t → Near 𝓓 (individuals 𝓓) a s b t
  near-grows a b s t h = (h.0, more.steps (step s (role h.0) t) h.1, fact-grows h.2)

  module _ (ok : WellFormed 𝓒) (ok' : WellFormed 𝓓) where
    -- THEOREM: a larger collection keeps a yes
    pub yes-grows : (a b : Individual) → IndividualDeclared 𝓒.counts a → IndividualDeclared 𝓓.counts a → Yes 𝓒 a b → Yes 𝓓 a b
    yes-grows a b i j y =
        let w = (path↔individuals-walk 𝓒 ok a b 𝓒.counts.start y.0 i).0 y.2 in
        let v : IndividualsWalk 𝓓 a 𝓒.counts.start b y.0 = walk-grows lite-grows (λ a. a) individual-grows near-grows w in
        (y.0, more.finals y.0 y.1, (path↔individuals-walk 𝓓 ok' a b 𝓓.counts.start y.0 j).1 (rw more.start at v))

    has-grows : (x : Element 𝓒) (D : Concept) → HasConcept 𝓒 (individuals 𝓒) x D → HasConcept 𝓓 (individuals 𝓓) x D
    has-grows (root a) D h = individual-grows a D h
    has-grows (x ▹ R) D h = concept-grows h

    -- an element that has a concept belongs to the larger model: its individual has a fact, which the larger collection declares
    belongs-grows : {x : Element 𝓒} → Belongs 𝓒 (individuals 𝓒) x → (D : Concept) → HasConcept 𝓒 (individuals 𝓒) x D → Belongs 𝓓 (individuals 𝓓) x
    belongs-grows (bare {a = a} i) D h = bare (typed-declared 𝓓 ok'.numbers (individual-grows a D h).1)
    belongs-grows (grown {x = x} {R = R} b k) D h = grown (belongs-grows b (Exists R) k) (has-grows x (Exists R) k)

    child-grows : {x : Element 𝓒} {R : SignedRole} → Belongs 𝓒 (individuals 𝓒) (x ▹ R) → Belongs 𝓓 (individuals 𝓓) (x ▹ R)
    child-grows (grown {x = x} {R = R} b k) = grown (belongs-grows b (Exists R) k) (has-grows x (Exists R) k)

    edge-grows : {x y : Element 𝓒} {S : SignedRole} → ModelEdge 𝓒 (individuals 𝓒) x S y → ModelEdge 𝓓 (individuals 𝓓) x S y
    edge-grows (fact f) = fact (fact-grows f)
    edge-grows (child b l) = child (child-grows b) (role-grows l)
    edge-grows (parent b l) = parent (child-grows b) (role-grows l)

    -- THEOREM: a larger collection keeps a contradiction
    pub contradiction-grows : Contradiction 𝓒 → Contradiction 𝓓
    contradiction-grows (at-element x C D m b h k) = at-element x C D (more.concept-exclusions (C, D) m) (belongs-grows b C h) (has-grows x C h) (has-grows x D k)
    contradiction-grows (at_pair x y R S m g h) = at_pair x y R S (more.role-exclusions (R, S) m) (edge-grows g) (edge-grows h)

    going-grows : (x y : Element 𝓒) (s t : State) → PathStep 𝓒 (canonical 𝓒) x s y t → Run (PathStep 𝓓 (canonical 𝓓)) x s y t
    going-grows x y s t (along-role S m e) = one (along-role S (more.steps _ m) (edge-grows e))
    going-grows x y s t (at_name A m h) = one (at_name A (more.steps _ m) (has-grows x (Name A) h))

    -- THEOREM: and each path that leaves an individual
    pub leaves-grows : (a : Individual) → Leaves 𝓒 a → Leaves 𝓓 a
    leaves-grows a l =
        let p = carry (λ x. x) going-grows l.3 in
        (l.0, more.finals l.0 l.1, l.2, rw more.start at p)
