-- Paths from a root to any element whatever, for any rules' kind: they are walks that lead out.
use Rattle.std.specs.Prelude.{◌≡◌, ◌↔◌, ◌⊎◌, refl}
use Rattle.std.proofs.Common.{inl, inr, ⊎_elim}
use Rattle.theory.specs.Kind.{Kind}
use Rattle.theory.specs.Grows.{Grows}
use Rattle.theory.specs.Run.{Run, stop, go, join}
use Rattle.theory.specs.Tree.{Elem, root, ◌▹◌, Loop, here, twice, below, Holds, Move, tests, downs, ups, hops, Stride, along, by, loop→path, path↔walk, alone, Tree}
use Rattle.theory.specs.Onward.{Onward, ends, around, deeper, LeadsOn, WalksOut}

module _ (𝓚 : Kind) where
  open 𝓚 use {Concept, State, Edge, end, child, test, down, up}

  -- other loops and other final states
  pub onward-of : {loop loop' : State → State → Concept → Type 0} {final final' : State → Type 0}
      → ((s t : State) (B : Concept) → loop s t B → loop' s t B) → ((s : State) → final s → final' s) → {s : State} {B : Concept}
      → Onward 𝓚 loop final s B → Onward 𝓚 loop' final' s B
  onward-of l f {s} (ends h) = ends (f s h)
  onward-of l f {s} {B} (around {t = t} h w) = around (l s t B h) (onward-of l f w)
  onward-of l f (deeper c d w) = deeper c d (onward-of l f w)

  module _ (final : State → Type 0) where
    -- THEOREM: each set that keeps the three rules has all from which the way leads on
    pub onward-least : (holds : State → Concept → Type 0) → ((s : State) (B : Concept) → final s → holds s B)
        → ((s t : State) (B : Concept) → Loop 𝓚 B s t → holds t B → holds s B)
        → ((s t : State) (B : Concept) (R : Edge) → child B R → down R s t → holds t (end R) → holds s B) → {s : State} {B : Concept}
        → LeadsOn 𝓚 final s B → holds s B
    onward-least holds e a d {s} {B} (ends h) = e s B h
    onward-least holds e a d {s} {B} (around {t = t} l w) = a s t B l (onward-least holds e a d w)
    onward-least holds e a d {s} {B} (deeper {t = t} {R = R} c h w) = d s t B R c h (onward-least holds e a d w)

    module _ {I : Type 0} (has : I → Concept → Type 0) (near : I → State → I → State → Type 0) where
      abbrev Out : I → State → Type 0
      Out = WalksOut 𝓚 has near final

      -- what a path to a final state comes to: at a root the walk that leads out; at an unnamed element the way on, or a loop
      -- and then the step up
      abbrev Left : Elem I Edge → State → Type 0
      Left (root a) s = Out a s
      Left (x ▹ R) s = LeadsOn 𝓚 final s (end R) ⊎ ((u v : State) × Loop 𝓚 (end R) s u × up R u v × Left x v)

      stride-out : {a b : I} {s u : State} → Stride 𝓚 has near a s b u → Out b u → Out a s
      stride-out m w = record { to = w.to; last = w.last; walk = go m w.walk; out = w.out }

      before : (x : Elem I Edge) {s u : State} (B : Concept) → Holds 𝓚 has near x B → Loop 𝓚 B s u → Left x u → Left x s
      before (root a) B h l w = stride-out (by B h l) w
      before (x ▹ R) B h l (inl k) = inl (around (rw (← h) at l) k)
      before (x ▹ R) B h l (inr w) = inr (w.0, w.1, twice (rw (← h) at l) w.2, w.3, w.4)

      into : (x : Elem I Edge) {s u : State} (B : Concept) (R : Edge) → Holds 𝓚 has near x B → child B R → down R s u → Left (x ▹ R) u → Left x s
      into (root a) {s} B R h k d (inl e) = record { to = a; last = s; walk = stop; out = inr (B, h, deeper k d e) }
      into (x ▹ S) B R h k d (inl e) = inl (deeper (rw (← h) at k) d e)
      into x B R h k d (inr w) = before x B h (below k d w.2 w.3) w.4

      ending : (x : Elem I Edge) {s : State} → final s → Left x s
      ending (root a) {s} h = record { to = a; last = s; walk = stop; out = inl h }
      ending (x ▹ R) h = inl (ends h)

      path→left : {x y : Elem I Edge} {s t : State} → Run (Move 𝓚 has near) x s y t → final t → Left x s
      path→left (stop {x = x}) h = ending x h
      path→left (go (tests {x = x} B i k) p) h = before x B i (Loop.tested k) (path→left p h)
      path→left (go (downs {x = x} B R i k d) p) h = into x B R i k d (path→left p h)
      path→left (go (ups {s = s} {t = v} u) p) h = inr (s, v, here, u, path→left p h)
      path→left (go (hops i) p) h = stride-out (along i) (path→left p h)

      abbrev Reach : Elem I Edge → State → Type 0
      Reach x s = (y : Elem I Edge) × (t : State) × final t × Run (Move 𝓚 has near) x s y t

      onward→path : {s : State} {B : Concept} → LeadsOn 𝓚 final s B → (x : Elem I Edge) → Holds 𝓚 has near x B → Reach x s
      onward→path {s} (ends h) x i = (x, s, h, stop)
      onward→path (around l w) x i = let r = onward→path w x i in (r.0, r.1, r.2, join (loop→path 𝓚 has near l x i) r.3)
      onward→path (deeper {B = B} {R = R} c d w) x i = let r = onward→path w (x ▹ R) refl in (r.0, r.1, r.2, go (downs B R i c d) r.3)

      out→path : {a : I} {s : State} → Out a s → Reach (root a) s
      out→path {a} {s} w =
          elim w.out [
            | inl h ↦ (root w.to, w.last, h, (path↔walk 𝓚 has near).1 w.walk)
            | inr k ↦
                let r = onward→path k.2 (root w.to) k.1 in
                (r.0, r.1, r.2, join ((path↔walk 𝓚 has near).1 w.walk) r.3)
          ]

      -- THEOREM: the walk over roots leads out exactly when a path leads from its root to any element whatever in a final state
      pub out↔path : (a : I) (s : State) → Out a s ↔ ((y : Elem I Edge) × (t : State) × final t × Run (Move 𝓚 has near) (root a) s y t)
      out↔path a s = (out→path, λ p. path→left p.3 p.2)

    walk→onward : {B C : Concept} {s t : State} → Run (Stride 𝓚 (λ B C. B ≡ C) (alone 𝓚)) B s C t → LeadsOn 𝓚 final t C → LeadsOn 𝓚 final s B
    walk→onward stop w = w
    walk→onward (go (along h) p) w = absurd h
    walk→onward (go (by C e l) p) w = around (rw (← e) at l) (walk→onward p w)

    -- THEOREM: the way leads on exactly when a path leads, in the tree grown from its concept, from the root to any element whatever
    -- in a final state
    pub onward↔tree : (s : State) (B : Concept) → LeadsOn 𝓚 final s B ↔ ((x : Elem Concept Edge) × (t : State) × final t × Tree 𝓚 (root B) s x t)
    onward↔tree s B = (λ w. onward→path (λ B C. B ≡ C) (alone 𝓚) w (root B) refl, λ p. back (path→left (λ B C. B ≡ C) (alone 𝓚) p.3 p.2))
      where
        back : WalksOut 𝓚 (λ B C. B ≡ C) (alone 𝓚) final B s → LeadsOn 𝓚 final s B
        back w = walk→onward w.walk (⊎_elim (λ h. ends h) (λ k. rw k.1 k.2) w.out)

-- growth: a kind that yields more leads on where the other does
module _ {𝓚 𝓛 : Kind} (g : Grows 𝓚 𝓛) where
  open g use {con, state, edge}

  pub onward-grows : {loop : 𝓚.State → 𝓚.State → 𝓚.Concept → Type 0} {loop' : 𝓛.State → 𝓛.State → 𝓛.Concept → Type 0} {final : 𝓚.State → Type 0} {final' : 𝓛.State → Type 0}
      → ((s t : 𝓚.State) (B : 𝓚.Concept) → loop s t B → loop' (state s) (state t) (con B)) → ((s : 𝓚.State) → final s → final' (state s))
      → {s : 𝓚.State} {B : 𝓚.Concept} → Onward 𝓚 loop final s B → Onward 𝓛 loop' final' (state s) (con B)
  onward-grows l f {s} (ends h) = ends (f s h)
  onward-grows l f {s} {B} (around {t = t} h w) = around (l s t B h) (onward-grows l f w)
  onward-grows {loop'} {final'} l f {s} {B} (deeper {t = t} {R = R} c d w) =
      let k : Onward 𝓛 loop' final' (state t) (con (𝓚.end R)) = onward-grows l f w in
      deeper (g.children B R c) (g.downs R s t d) (rw (g.ends R) at k)
