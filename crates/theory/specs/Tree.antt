-- Elements grown from roots (docs/RULES.md, section 5), paths over them, and the loops at a concept
-- (section 6), for any rules' kind.
use Rattle.std.specs.Prelude.{◌↔◌, ◌≡◌, refl}
use Rattle.theory.specs.Run.{Run, stop, go, one, join}
use Rattle.theory.specs.Kind.{Kind}

-- an element: a root, followed by a finite row of edges
infixl 60 ◌▹◌
pub data Elem (I E : Type 0) : Type 0 where
  root : I → Elem I E
  ◌▹◌ : Elem I E → E → Elem I E

module _ (𝓚 : Kind) where
  open 𝓚 use {Concept, State, Edge, end, child, test, down, up}

  -- the loops at a concept: the smallest set that the sheet's three rules keep
  pub data Loop : Concept → State → State → Type 0 where
    here : {B : Concept} {s : State} → Loop B s s
    tested : {B : Concept} {s t : State} → test B s t → Loop B s t
    twice : {B : Concept} {s t u : State} → Loop B s t → Loop B t u → Loop B s u
    below : {B : Concept} {R : Edge} {s t u v : State} → child B R → down R s t → Loop (end R) t u
        → up R u v → Loop B s v

  -- roots, the concepts that a root has, and the role steps along edges between roots
  module _ {I : Type 0} (has : I → Concept → Type 0) (near : I → State → I → State → Type 0) where
    -- the concepts that an element is known by
    abbrev pub Holds : Elem I Edge → Concept → Type 0
    Holds (root a) B = has a B
    Holds (x ▹ R) B = end R ≡ B

    pub data Move : Elem I Edge → State → Elem I Edge → State → Type 0 where
      tests : {x : Elem I Edge} {s t : State} (B : Concept) → Holds x B → test B s t → Move x s x t
      downs : {x : Elem I Edge} {s t : State} (B : Concept) (R : Edge) → Holds x B → child B R
          → down R s t → Move x s (x ▹ R) t
      ups : {x : Elem I Edge} {R : Edge} {s t : State} → up R s t → Move (x ▹ R) s x t
      hops : {a b : I} {s t : State} → near a s b t → Move (root a) s (root b) t

    -- the walk over roots: along an edge, or from s to t at a when a has some B with (s, t, B)
    pub data Stride : I → State → I → State → Type 0 where
      along : {a b : I} {s t : State} → near a s b t → Stride a s b t
      by : {a : I} {s t : State} (B : Concept) → has a B → Loop B s t → Stride a s a t

    -- a loop is a path at any element that has its concept
    pub loop→path : {B : Concept} {s t : State} → Loop B s t → (x : Elem I Edge) → Holds x B
        → Run Move x s x t
    loop→path here x h = stop
    loop→path (tested {B = B} e) x h = one (tests B h e)
    loop→path (twice l m) x h = join (loop→path l x h) (loop→path m x h)
    loop→path (below {B = B} {R = R} k d l u) x h =
        go (downs B R h k d) (join (loop→path l (x ▹ R) refl) (one (ups u)))

    walk→path : {a b : I} {s t : State} → Run Stride a s b t → Run Move (root a) s (root b) t
    walk→path stop = stop
    walk→path (go (along h) w) = go (hops h) (walk→path w)
    walk→path (go (by {a = a} B h l) w) = join (loop→path l (root a) h) (walk→path w)

    module _ (b : I) (t : State) where
      -- what is left of a path that ends at the root b in t: at each element on the way up a loop,
      -- then the step up
      abbrev Left : Elem I Edge → State → Type 0
      Left (root a) s = Run Stride a s b t
      Left (x ▹ R) s = (u v : State) × Loop (end R) s u × up R u v × Left x v

      before : (x : Elem I Edge) {s u : State} (B : Concept) → Holds x B → Loop B s u → Left x u
          → Left x s
      before (root a) B h l w = go (by B h l) w
      before (x ▹ R) B h l w = (w.0, w.1, twice (rw (← h) at l) w.2, w.3, w.4)

      path→left : {x : Elem I Edge} {s : State} → Run Move x s (root b) t → Left x s
      path→left stop = stop
      path→left (go (tests {x = x} B h e) p) = before x B h (tested e) (path→left p)
      path→left (go (downs {x = x} B R h k d) p) =
          let w = path→left p in
          before x B h (below k d w.2 w.3) w.4
      path→left (go (ups {s = s} {t = v} u) p) = (s, v, here, u, path→left p)
      path→left (go (hops h) p) = go (along h) (path→left p)

    -- a path leads from root to root exactly when the walk does
    pub path↔walk : {a b : I} {s t : State} → Run Move (root a) s (root b) t ↔ Run Stride a s b t
    path↔walk {b = b} {t = t} = (path→left b t, walk→path)

  -- the tree grown from one element: each concept is a root that has itself alone, and nothing
  -- leads from root to root
  abbrev pub alone : Concept → State → Concept → State → Type 0
  alone B s C t = ⊥

  abbrev pub Tree : Elem Concept Edge → State → Elem Concept Edge → State → Type 0
  Tree = Run (Move (λ B C. B ≡ C) alone)

  walk→loop : {B C : Concept} {s t : State} → Run (Stride (λ B C. B ≡ C) alone) B s C t → Loop B s t
  walk→loop stop = here
  walk→loop (go (along h) w) = absurd h
  walk→loop (go (by C e l) w) = twice (rw (← e) at l) (walk→loop w)

  -- there is a loop exactly when a path leads, in the tree grown from its concept, from the root
  -- back to the root
  pub loop↔tree : {B : Concept} {s t : State} → Loop B s t ↔ Tree (root B) s (root B) t
  loop↔tree {B} {t = t} = (
    λ l. loop→path (λ B C. B ≡ C) alone l (root B) refl,
    λ p. walk→loop (path→left (λ B C. B ≡ C) alone B t p),
  )
