-- Paths between roots, in the canonical model and in a tree grown from one element, are walks of the loop sheet's rules.
use Rattle.std.specs.Prelude.{◌↔◌}
use Rattle.kinds.specs.declared.Individual.{Individual}
use Rattle.kinds.specs.declared.State.{State}
use Rattle.kinds.specs.declared.SignedRole.{SignedRole}
use Rattle.kinds.specs.declared.Concept.{Concept}
use Rattle.kinds.specs.Kinds.{IndividualDeclared}
use Rattle.meaning.specs.Collection.{Collection, WellFormed}
use Rattle.meaning.specs.Orders.{ConceptLe, same, then}
use Rattle.theory.specs.Run.{Run, stop, go, one}
use Rattle.theory.specs.Tree.{root, Loop, here, tested, twice, below, Stride, along, by}
use Rattle.meaning.specs.Model.{individuals, canonical, only, tree_of, FactEdge, ahead, behind}
use Rattle.meaning.specs.Question.{PathIn}
use Rattle.meaning.specs.Lite.{lite}
use Rattle.meaning.specs.Walk.{Near, IndividualsWalk}
use Rattle.meaning.proofs.ModelPaths.{RootsKeep, path↔steps}

module _ (𝓒 : Collection) (ok : WellFormed 𝓒) where
  -- both ends of an edge between individuals are declared
  pub edge-declared : {a b : Individual} {S : SignedRole} → FactEdge 𝓒 a S b → IndividualDeclared 𝓒.counts a × IndividualDeclared 𝓒.counts b
  edge-declared (ahead {r = r} {a = a} {b = b} m l) = let d = ok.numbers.role-facts (r, a, b) m in (d.1, d.2)
  edge-declared (behind {r = r} {a = a} {b = b} m l) = let d = ok.numbers.role-facts (r, a, b) m in (d.2, d.1)

  pub individuals-keep : RootsKeep 𝓒 (individuals 𝓒)
  individuals-keep =
      record
      { upward = λ a C D h k. (h.0, h.1, then h.2 k); within = λ a b S e. (edge-declared e).1 }

  -- THEOREM: a path of the canonical model leads from individual to individual exactly when the individuals' walk does
  pub path↔individuals-walk : (a b : Individual) (s t : State) → IndividualDeclared 𝓒.counts a
      → PathIn 𝓒 (canonical 𝓒) (root a) s (root b) t ↔ IndividualsWalk 𝓒 a s b t
  path↔individuals-walk = path↔steps 𝓒 (individuals 𝓒) individuals-keep

module _ (𝓒 : Collection) (B : Concept) where
  only_keeps : RootsKeep 𝓒 (only 𝓒 B)
  only_keeps = record { upward = λ a C D h k. then h k; within = λ a b S e. absurd e }

  -- what follows from B has no loop that B has not
  loop-above : {C : Concept} {s t : State} → Loop (lite 𝓒) C s t → ConceptLe 𝓒 B C → Loop (lite 𝓒) B s t
  loop-above here k = here
  loop-above (tested e) k = tested (e.0, e.1, then k e.2)
  loop-above (twice l m) k = twice (loop-above l k) (loop-above m k)
  loop-above (below c d l u) k = below (then k c) d l u

  walk→loop : {a b : Unit {0}} {s t : State} → Run (Stride (lite 𝓒) (only 𝓒 B).has (Near 𝓒 (only 𝓒 B))) a s b t → Loop (lite 𝓒) B s t
  walk→loop stop = here
  walk→loop (go (along h) w) = absurd h.2
  walk→loop (go (by C k l) w) = twice (loop-above l k) (walk→loop w)

  -- a loop at B is a path, in the tree grown from one element whose only concept is B, from that element back to it
  pub loop↔tree_of : (s t : State) → Loop (lite 𝓒) B s t ↔ PathIn 𝓒 (tree_of 𝓒 B) (root tt) s (root tt) t
  loop↔tree_of s t = (
    λ l. (path↔steps 𝓒 (only 𝓒 B) only_keeps tt tt s t tt).1 (one (by B same l)),
    λ p. walk→loop ((path↔steps 𝓒 (only 𝓒 B) only_keeps tt tt s t tt).0 p),
  )
