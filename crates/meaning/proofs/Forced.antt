-- The canonical model speaks for every world: where it breaks an exclusion there is no world, where it breaks none it is itself one, and then it has a path exactly when the facts and rules force one.
use Rattle.kinds.specs.declared.Individual.{Individual}
use Rattle.kinds.specs.declared.State.{State}
use Rattle.kinds.specs.declared.SignedRole.{SignedRole}
use Rattle.kinds.specs.declared.Concept.{Concept}
use Rattle.kinds.specs.declared.Concept.TheVariants.{Name, Exists}
use Rattle.kinds.specs.Kinds.{inverse, inverse-inverse, inverse-forward, forward}
use Rattle.meaning.specs.Collection.{Collection, NumbersDeclared}
use Rattle.meaning.specs.Orders.{RoleLe, ConceptLe, same, then, rule, turned, wider}
use Rattle.theory.specs.Tree.{root, ◌▹◌}
use Rattle.theory.specs.Run.{Run, stop, go, one, carry}
use Rattle.meaning.specs.Model.{HasConcept, Belongs, bare, ModelEdge, fact, child, parent, individuals, Element, Typed, named, first, second, FactEdge, ahead, behind, canonical, Contradiction, at-element, at_pair}
use Rattle.meaning.proofs.ModelLaws.{born, edge-back, edge-above, edge-has, has-neighbour, concept-fact-holds, role-fact-holds, concept-rule-kept}
use Rattle.meaning.specs.Question.{PathStep, along-role, at_name, Yes}
use Rattle.meaning.specs.Leaving.{LeavesIn, Leaves}
use Rattle.meaning.specs.Clash.{Alive, sprouts, grows, Clash, individual-clash, unnamed-clash, fact-clash, down-clash, up-clash}
use Rattle.meaning.proofs.Clash.{find}
use Rattle.meaning.specs.Worlds.{World, In, Keeps, Respects, IsWorld, YesIn, model_world}

-- a thing of a world stands for an element: it is the individual, or a neighbour, by the element's last role, of one that stands for its parent
pub data Stands (𝓒 : Collection) (𝓦 : World) : Element 𝓒 → 𝓦.structure.Thing → Type 0 where
  for-root : {a : Individual} → Stands 𝓒 𝓦 (root a) (𝓦.person a)
  for-child : {x : Element 𝓒} {R : SignedRole} {d e : 𝓦.structure.Thing} → Stands 𝓒 𝓦 x d → 𝓦.structure.edge d R e → Stands 𝓒 𝓦 (x ▹ R) e

module _ (𝓒 : Collection) (𝓦 : World) (keeps : Keeps 𝓒 𝓦) where
  open 𝓦 use {structure, person}

  -- what follows from the rules holds in the world
  edge-up : {R S : SignedRole} → RoleLe 𝓒 R S → (x y : structure.Thing) → structure.edge x R y → structure.edge x S y
  edge-up same x y e = e
  edge-up (then l m) x y e = edge-up m x y (edge-up l x y e)
  edge-up (rule h) x y e = keeps.role-rule h e
  edge-up (turned {R = R} l) x y e =
      let f : structure.edge y (inverse (inverse R)) x = keeps.back e in
      keeps.back (edge-up l y x (rw (inverse-inverse R) at f))

  in-up : {C D : Concept} → ConceptLe 𝓒 C D → (x : structure.Thing) → In structure x C → In structure x D
  in-up same x h = h
  in-up (then l m) x h = in-up m x (in-up l x h)
  in-up (rule r) x h = keeps.concept-rule r x h
  in-up (wider l) x h = (h.0, edge-up l x h.0 h.1)

  typed-in : {a : Individual} {C : Concept} → Typed 𝓒 a C → In structure (person a) C
  typed-in (named m) = keeps.concept-fact m
  typed-in (first {b = b} m) = (person b, keeps.role-fact m)
  typed-in (second {r = r} {a = a} {b = b} m) =
      let e : structure.edge (person b) (inverse (forward r)) (person a) = keeps.back (keeps.role-fact m) in
      (person a, rw (inverse-forward r) at e)

  fact-edge : {a b : Individual} {S : SignedRole} → FactEdge 𝓒 a S b → structure.edge (person a) S (person b)
  fact-edge (ahead m l) = edge-up l _ _ (keeps.role-fact m)
  fact-edge (behind m l) = keeps.back (edge-up l _ _ (keeps.role-fact m))

  -- a thing has the concepts of the element that it stands for
  holds : {x : Element 𝓒} {d : structure.Thing} (C : Concept) → Stands 𝓒 𝓦 x d → HasConcept 𝓒 (individuals 𝓒) x C → In structure d C
  holds {d = d} C for-root h = in-up h.2 d (typed-in h.1)
  holds {d = e} C (for-child {d = d} s f) h = in-up h e (d, keeps.back f)

  -- an edge of the model is one of the world
  follows : {x y : Element 𝓒} {S : SignedRole} {d : structure.Thing} → ModelEdge 𝓒 (individuals 𝓒) x S y → Stands 𝓒 𝓦 x d
      → (e : structure.Thing) × Stands 𝓒 𝓦 y e × structure.edge d S e
  follows (fact {b = b} f) for-root = (person b, for-root, fact-edge f)
  follows {d = d} (child {R = R} b l) s =
      let n = holds (Exists R) s (born 𝓒 (individuals 𝓒) b).1 in
      (n.0, for-child s n.1, edge-up l d n.0 n.1)
  follows {d = e} (parent b l) (for-child {d = d} s f) = (d, s, keeps.back (edge-up l d e f))

  -- a path of the model is one of the world
  path-in : {x y : Element 𝓒} {s t : State} {d : structure.Thing} → Run (PathStep 𝓒 (canonical 𝓒)) x s y t → Stands 𝓒 𝓦 x d
      → (e : structure.Thing) × Stands 𝓒 𝓦 y e × Run (PathStep 𝓒 structure) d s e t
  path-in {d = d} stop s = (d, s, stop)
  path-in (go (along-role S m f) p) s =
      let n = follows f s in
      let w = path-in p n.1 in
      (w.0, w.1, go (along-role S m n.2) w.2)
  path-in (go (at_name A m h) p) s = let w = path-in p s in (w.0, w.1, go (at_name A m (holds (Name A) s h)) w.2)

  ends : {b : Individual} {e d : structure.Thing} {s t : State} → Stands 𝓒 𝓦 (root b) e → Run (PathStep 𝓒 structure) d s e t → Run (PathStep 𝓒 structure) d s (person b) t
  ends for-root p = p

  -- THEOREM: a yes of the model is a yes of every world that has the facts and keeps the rules
  pub yes-in : (a b : Individual) → Yes 𝓒 a b → YesIn 𝓒 𝓦 a b
  yes-in a b y = let w = path-in y.2 for-root in (y.0, y.1, ends w.1 w.2)

  -- THEOREM: and a path that leaves an individual in the model leaves it in every such world
  pub leaves-in : (a : Individual) → Leaves 𝓒 a → LeavesIn 𝓒 structure (person a)
  leaves-in a l = let w = path-in l.3 for-root in (l.0, l.1, w.0, w.2)

  -- a living role joins two things
  alive : {R : SignedRole} → Alive 𝓒 R → (d e : structure.Thing) × structure.edge d R e
  alive (sprouts a R h) = let n = holds (Exists R) for-root h in (person a, n.0, n.1)
  alive (grows R S v l) =
      let p = alive v in
      let n = in-up l p.1 (p.0, keeps.back p.2) in
      (p.1, n.0, n.1)

  module _ (respects : Respects 𝓒 𝓦) where
    clash-fails : Clash 𝓒 → ⊥
    clash-fails (individual-clash a C D m h k) = respects.concepts m (person a) (holds C for-root h) (holds D for-root k)
    clash-fails (unnamed-clash R C D m v l k) =
        let p = alive v in
        let n : In structure p.1 (Exists (inverse R)) = (p.0, keeps.back p.2) in
        respects.concepts m p.1 (in-up l p.1 n) (in-up k p.1 n)
    clash-fails (fact-clash a b R S m f g) = respects.roles m (fact-edge f) (fact-edge g)
    clash-fails (down-clash Q R S m v l k) = let p = alive v in respects.roles m (edge-up l _ _ p.2) (edge-up k _ _ p.2)
    clash-fails (up-clash Q R S m v l k) = let p = alive v in respects.roles m (keeps.back (edge-up l _ _ p.2)) (keeps.back (edge-up k _ _ p.2))

module _ (𝓒 : Collection) where
  -- in this world an element is in the concepts that it has
  in-has : (x : Element 𝓒) (C : Concept) → In (model_world 𝓒).structure x C → Belongs 𝓒 (individuals 𝓒) x × HasConcept 𝓒 (individuals 𝓒) x C
  in-has x (Name A) h = h
  in-has x (Exists R) h = (h.1.0, edge-has 𝓒 h.1.2)

  has_in : (x : Element 𝓒) (C : Concept) → Belongs 𝓒 (individuals 𝓒) x → HasConcept 𝓒 (individuals 𝓒) x C → In (model_world 𝓒).structure x C
  has_in x (Name A) b h = (b, h)
  has_in x (Exists R) b h = let n = has-neighbour 𝓒 x R b h in (n.0, (b, n.1, n.2))

  -- THEOREM: it has the facts and keeps the rules
  pub model-keeps : NumbersDeclared 𝓒 → Keeps 𝓒 (model_world 𝓒)
  model-keeps ok = record {
    back = λ e. (e.1, e.0, edge-back 𝓒 e.2);
    concept-fact = λ {A} {a} m. (bare (ok.concept-facts (A, a) m).1, concept-fact-holds 𝓒 A a m);
    role-fact = λ {r} {a} {b} m. let d = ok.role-facts (r, a, b) m in (bare d.1, bare d.2, role-fact-holds 𝓒 r a b m);
    concept-rule = λ {C} {D} m x h. let w = in-has x C h in has_in x D w.0 (concept-rule-kept 𝓒 C D m x w.1);
    role-rule = λ m e. (e.0, e.1, edge-above 𝓒 e.2 (rule m));
  }

  -- THEOREM: it breaks no exclusion, unless there is a contradiction
  pub model-respects : (Contradiction 𝓒 → ⊥) → Respects 𝓒 (model_world 𝓒)
  model-respects sane = record {
    concepts = λ {C} {D} m x h k. let w = in-has x C h in sane (at-element x C D m w.0 w.1 (in-has x D k).1);
    roles = λ {R} {S} m {x} {y} e f. sane (at_pair x y R S m e.2 f.2);
  }

  going : (x y : Element 𝓒) (s t : State) → PathStep 𝓒 (model_world 𝓒).structure x s y t → Run (PathStep 𝓒 (canonical 𝓒)) x s y t
  going x y s t (along-role S m e) = one (along-role S m e.2)
  going x y s t (at_name A m h) = one (at_name A m h.1)

  -- THEOREM: where it has a path as a world, the pair is yes
  pub yes-out : (a b : Individual) → YesIn 𝓒 (model_world 𝓒) a b → Yes 𝓒 a b
  yes-out a b y = (y.0, y.1, carry (λ x. x) going y.2)

  -- THEOREM: and where one leaves an individual it does so in the model
  pub leaves-out : (a : Individual) → LeavesIn 𝓒 (model_world 𝓒).structure (root a) → Leaves 𝓒 a
  leaves-out a l = (l.0, l.1, l.2, carry (λ x. x) going l.3)

-- THEOREM: a contradiction leaves no world
pub no-world : (𝓒 : Collection) (𝓦 : World) → Contradiction 𝓒 → IsWorld 𝓒 𝓦 → ⊥
no-world 𝓒 𝓦 h w = clash-fails 𝓒 𝓦 w.keeps w.respects (find 𝓒 h)
