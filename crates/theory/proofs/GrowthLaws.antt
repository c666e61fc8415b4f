-- Growth: a rules' kind that yields more yields every loop, walk and path again.
use Rattle.theory.specs.Run.{Run, stop, go}
use Rattle.theory.specs.Kind.{Kind}
use Rattle.theory.specs.Grows.{Grows}
use Rattle.theory.specs.Tree.{root, Loop, here, tested, twice, below, Move, Stride, along, by, path↔walk}

module _ {𝓚 𝓛 : Kind} (g : Grows 𝓚 𝓛) where
  open g use {con, state, edge}

  pub loop-grows : {B : 𝓚.Concept} {s t : 𝓚.State} → Loop 𝓚 B s t → Loop 𝓛 (con B) (state s) (state t)
  loop-grows here = here
  loop-grows (tested {B = B} {s = s} {t = t} e) = tested (g.tests B s t e)
  loop-grows (twice l m) = twice (loop-grows l) (loop-grows m)
  loop-grows (below {B = B} {R = R} {s = s} {t = t} {u = u} {v = v} c d l e) =
      let k = loop-grows l in
      below (g.children B R c) (g.downs R s t d) (rw (g.ends R) at k) (g.ups R u v e)

  module _ {I J : Type 0} (of : I → J) {has : I → 𝓚.Concept → Type 0} {has' : J → 𝓛.Concept → Type 0} {near : I → 𝓚.State → I → 𝓚.State → Type 0} {near' : J → 𝓛.State → J → 𝓛.State → Type 0}
      (more : (a : I) (B : 𝓚.Concept) → has a B → has' (of a) (con B)) (nearer : (a b : I) (s t : 𝓚.State) → near a s b t → near' (of a) (state s) (of b) (state t)) where
    pub walk-grows : {a b : I} {s t : 𝓚.State} → Run (Stride 𝓚 has near) a s b t → Run (Stride 𝓛 has' near') (of a) (state s) (of b) (state t)
    walk-grows stop = stop
    walk-grows (go (along {a = a} {b = b} {s = s} {t = t} e) w) = go (along (nearer a b s t e)) (walk-grows w)
    walk-grows (go (by {a = a} B h l) w) = go (by (con B) (more a B h) (loop-grows l)) (walk-grows w)

    -- THEOREM: a path from root to root leads there still
    pub path-grows : {a b : I} {s t : 𝓚.State} → Run (Move 𝓚 has near) (root a) s (root b) t
        → Run (Move 𝓛 has' near') (root (of a)) (state s) (root (of b)) (state t)
    path-grows p = (path↔walk 𝓛 has' near').1 (walk-grows ((path↔walk 𝓚 has near).0 p))
