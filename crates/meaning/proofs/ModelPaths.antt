-- Moves of the loop sheet's rules are, in a structure grown from roots, a path.
use Rattle.std.specs.Prelude.{◌↔◌}
use Rattle.kinds.specs.declared.State.{State}
use Rattle.kinds.specs.declared.SignedRole.{SignedRole}
use Rattle.kinds.specs.declared.Concept.{Concept}
use Rattle.kinds.specs.declared.Concept.TheVariants.{Name, Exists}
use Rattle.kinds.specs.Kinds.{inverse}
use Rattle.meaning.specs.Collection.{Collection}
use Rattle.meaning.specs.Orders.{ConceptLe}
use Rattle.theory.specs.Run.{Run, stop, go, one, carry}
use Rattle.theory.specs.Tree.{Elem, root, ◌▹◌, Holds, Move, tests, downs, ups, hops, Stride, path↔walk}
use Rattle.meaning.specs.Model.{Roots, HasConcept, Belongs, bare, grown, fact, child, parent, grown_from}
use Rattle.meaning.proofs.ModelLaws.{born}
use Rattle.meaning.specs.Question.{along-role, at_name, PathIn}
use Rattle.meaning.specs.Lite.{lite}
use Rattle.meaning.specs.Walk.{Near}
use Rattle.meaning.proofs.ModelMoves.{to-move}

-- what roots must keep: their concepts are closed under ≤, and edges lead to roots that belong
pub record RootsKeep (𝓒 : Collection) (𝓡 : Roots) : Type 0 where
  pub upward : (a : 𝓡.Root) (C D : Concept) → 𝓡.has a C → ConceptLe 𝓒 C D → 𝓡.has a D
  pub within : (a b : 𝓡.Root) (S : SignedRole) → 𝓡.edge a S b → 𝓡.belongs b

module _ (𝓒 : Collection) (𝓡 : Roots) (keep : RootsKeep 𝓒 𝓡) where
  abbrev Walk : 𝓡.Root → State → 𝓡.Root → State → Type 0
  Walk = Run (Stride (lite 𝓒) 𝓡.has (Near 𝓒 𝓡))

  holds→has : (x : Elem 𝓡.Root SignedRole) (B D : Concept) → Holds (lite 𝓒) 𝓡.has (Near 𝓒 𝓡) x B → ConceptLe 𝓒 B D → HasConcept 𝓒 𝓡 x D
  holds→has (root a) B D h k = keep.upward a B D h k
  holds→has (x ▹ R) B D h k = rw h k

  -- THEOREM: moves from an element that belongs are a path
  pub from-moves : {x y : Elem 𝓡.Root SignedRole} {s t : State} → Run (Move (lite 𝓒) 𝓡.has (Near 𝓒 𝓡)) x s y t → Belongs 𝓒 𝓡 x
      → PathIn 𝓒 (grown_from 𝓒 𝓡) x s y t
  from-moves stop b = stop
  from-moves (go (tests {x = x} B h e) p) b = go (at_name e.0 e.1 (holds→has x B (Name e.0) h e.2)) (from-moves p b)
  from-moves (go (downs {x = x} B R h k d) p) b =
      let c : Belongs 𝓒 𝓡 (x ▹ R) = grown b (holds→has x B (Exists R) h k) in
      go (along-role d.0 d.1 (child c d.2)) (from-moves p c)
  from-moves (go (ups u) p) b = go (along-role (inverse u.0) u.1 (parent b u.2)) (from-moves p (born 𝓒 𝓡 b).0)
  from-moves (go (hops {a = a} {b = d} f) p) b = go (along-role f.0 f.1 (fact f.2)) (from-moves p (bare (keep.within a d f.0 f.2)))

  -- THEOREM: a path leads from root to root exactly when a walk by the sheet's rules does
  pub path↔steps : (a b : 𝓡.Root) (s t : State) → 𝓡.belongs a → PathIn 𝓒 (grown_from 𝓒 𝓡) (root a) s (root b) t ↔ Walk a s b t
  path↔steps a b s t h = (
    λ p. (path↔walk (lite 𝓒) 𝓡.has (Near 𝓒 𝓡)).0 (carry (λ x. x) (λ x y s t m. one (to-move 𝓒 𝓡 m)) p),
    λ w. from-moves ((path↔walk (lite 𝓒) 𝓡.has (Near 𝓒 𝓡)).1 w) (bare h),
  )
