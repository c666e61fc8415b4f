-- Each step of a path, in a structure grown from roots, is a move of the loop sheet's rules.
use Rattle.std.specs.Prelude.{refl}
use Rattle.kinds.specs.declared.State.{State}
use Rattle.kinds.specs.declared.SignedRole.{SignedRole}
use Rattle.kinds.specs.declared.Concept.{Concept}
use Rattle.kinds.specs.declared.Concept.TheVariants.{Exists}
use Rattle.kinds.specs.Kinds.{inverse}
use Rattle.meaning.specs.Collection.{Collection}
use Rattle.meaning.specs.Orders.{ConceptLe, same}
use Rattle.theory.specs.Tree.{Elem, root, ◌▹◌, Holds, Move, tests, downs, ups, hops}
use Rattle.meaning.specs.Model.{Roots, HasConcept, fact, child, parent, grown_from}
use Rattle.meaning.proofs.ModelLaws.{born}
use Rattle.meaning.specs.Question.{PathStep, along-role, at_name}
use Rattle.meaning.specs.Lite.{lite}
use Rattle.meaning.specs.Walk.{Near}

module _ (𝓒 : Collection) (𝓡 : Roots) where
  has→holds : (x : Elem 𝓡.Root SignedRole) {D : Concept} → HasConcept 𝓒 𝓡 x D → (B : Concept) × Holds (lite 𝓒) 𝓡.has (Near 𝓒 𝓡) x B × ConceptLe 𝓒 B D
  has→holds (root a) {D} h = (D, h, same)
  has→holds (x ▹ R) h = (Exists (inverse R), refl, h)

  -- THEOREM: a step of a path is a move
  pub to-move : {x y : Elem 𝓡.Root SignedRole} {s t : State} → PathStep 𝓒 (grown_from 𝓒 𝓡) x s y t → Move (lite 𝓒) 𝓡.has (Near 𝓒 𝓡) x s y t
  to-move (along-role S e (fact f)) = hops (S, e, f)
  to-move (along-role S e (child {x = x} {R = R} b l)) = let w = has→holds x (born 𝓒 𝓡 b).1 in downs w.0 R w.1 w.2 (S, e, l)
  to-move (along-role S e (parent b l)) = ups (_, e, l)
  to-move (at_name {x = x} A e h) = let w = has→holds x h in tests w.0 w.1 (A, e, w.2)
