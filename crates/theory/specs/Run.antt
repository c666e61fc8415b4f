-- A run: finitely many moves, things and states in step (docs/RULES.md, section 5, a path). One
-- notion serves the canonical model, its
-- trees and every world.

pub data Run {X S : Type 0} (Move : X → S → X → S → Type 0) : X → S → X → S → Type 0 where
  stop : {x : X} {s : S} → Run Move x s x s
  go : {x y z : X} {s t u : S} → Move x s y t → Run Move y t z u → Run Move x s z u

module _ {X S : Type 0} {Move : X → S → X → S → Type 0} where
  pub one : {x y : X} {s t : S} → Move x s y t → Run Move x s y t
  one m = go m stop

  pub join : {x y z : X} {s t u : S} → Run Move x s y t → Run Move y t z u → Run Move x s z u
  join stop q = q
  join (go m p) q = go m (join p q)

-- a run is carried over by any map of things that keeps the moves
pub carry : {X Y S : Type 0} {M : X → S → X → S → Type 0} {N : Y → S → Y → S → Type 0} (f : X → Y)
    → ((x y : X) (s t : S) → M x s y t → Run N (f x) s (f y) t) → {x y : X} {s t : S}
    → Run M x s y t → Run N (f x) s (f y) t
carry f h stop = stop
carry f h (go m p) = join (h _ _ _ _ m) (carry f h p)
