-- Calculation: from which states and concepts the way leads on, over a sheet that computes, round by round until nothing changes.
use Rattle.std.specs.Prelude.{◌≡◌, ◌↔◌, Bool, ◌⊎◌, List, length, IsTrue}
use Rattle.std.proofs.Math.Path.{fun_ext, sym}
use Rattle.std.proofs.Common.{◌∙◌, inl, inr, arith}
use Prim.Native.Nat.{ℕ, zero, suc}
use Rattle.std.proofs.Math.Dec.{T}
use Rattle.laws.specs.Member.{◌∈◌}
use Rattle.laws.specs.Search.{any, or, or_left, and, passes}
use Rattle.laws.specs.Truth.{test-in, test-self, test-and, test-or, test-any}
use Rattle.laws.specs.Pairs.{pairs, pairs-in}
use Rattle.laws.specs.Rounds.{Least, Still}
use Rattle.laws.specs.Fixpoint.{memo, memo-is, fixpoint, fixpoint-is}
use Rattle.theory.specs.Kind.{Kind, Sane}
use Rattle.theory.specs.Tests.{Tests, AreTestsOf}
use Rattle.theory.specs.Onward.{Onward, ends, around, deeper}

module _ (𝓚 : Kind) (𝓣 : Tests 𝓚) (f : 𝓚.State → 𝓚.State → 𝓚.Concept → Bool) (final : 𝓚.State → Bool) where
  open 𝓚 use {Concept, State, Edge, concepts, states, end, child, down}
  open 𝓣 use {edges, same-state, same-concept, has-child, has-down}

  abbrev Table : Type 0
  Table = State → Concept → Bool

  -- along a loop to t; down an edge to t
  unfoldable pub goes_round : Table → State → Concept → State → Bool
  goes_round g s B t = let b = g t B in and (f s t B) b

  unfoldable pub goes_to : Table → State → Edge → State → Bool
  goes_to g s R t = let b = g t (end R) in and (has-down R s t) b

  unfoldable pub goes_down : Table → State → Concept → Edge → Bool
  goes_down g s B R = let b = any states (goes_to g s R) in and (has-child B R) b

  unfoldable pub further : Table → Table
  further g s B = let d = any edges (goes_down g s B) in let r = or (any states (goes_round g s B)) d in or (g s B) r

  unfoldable layer : ℕ → Table
  layer zero s B = final s
  layer (suc k) s B = further (layer k) s B

  abbrev node_at : Table → State × Concept → Bool
  node_at g p = g p.0 p.1

  unfoldable pub nodes : List (State × Concept)
  nodes = pairs states concepts

  unfoldable pub kept : Table → Table
  kept g = memo same-state states (λ s. memo same-concept concepts (g s))

  unfoldable pub onward_work : ℕ × Table
  onward_work = fixpoint nodes node_at (λ g. kept (further g)) (length nodes) 0 (λ s B. final s)

  -- as it is computed
  abbrev pub onward : Table
  onward = onward_work.1

  further-keeps : (g : Table) (s : State) (B : Concept) → T (g s B) → T (further g s B)
  unfolding further
  further-keeps g s B h = or_left (g s B) _ h

  layer-keeps : (k : ℕ) (p : State × Concept) → T (node_at (layer k) p) → T (node_at (layer (suc k)) p)
  unfolding layer
  layer-keeps k p h = further-keeps (layer k) p.0 p.1 h

  module _ (ok : AreTestsOf 𝓚 𝓣) (sane : Sane 𝓚) (loop : State → State → Concept → Type 0) (Final : State → Type 0)
      (loop-is : (s t : State) (B : Concept) → s ∈ states → B ∈ concepts → IsTrue (f s t B) ↔ loop s t B)
      (loop-to : (s t : State) (B : Concept) → s ∈ states → loop s t B → t ∈ states) (final-is : (s : State) → IsTrue (final s) ↔ Final s)
    where
      abbrev On : State → Concept → Type 0
      On = Onward 𝓚 loop Final

      -- from where G leads on in one step more, with where the step's state and edge are found
      abbrev Found : (State → Concept → Type 0) → State → Concept → Type 0
      Found G s B =
          G s B ⊎ (((t : State) × (t ∈ states) × (loop s t B × G t B)) ⊎ ((R : Edge) × (R ∈ edges)
          × (child B R × ((t : State) × (t ∈ states) × (down R s t × G t (end R))))))

      further-is : (g : Table) (s : State) (B : Concept) → s ∈ states → B ∈ concepts
          → IsTrue (further g s B) ↔ Found (λ s B. IsTrue (g s B)) s B
      unfolding further goes_round goes_down goes_to
      further-is g s B m b =
          test-or (test-self (g s B)) (test-or
          (test-any states (λ t i. test-and (loop-is s t B m b) (test-self (g t B))))
          (test-any edges (λ R e. test-and (ok.child B R b)
          (test-any states (λ t i. test-and (ok.down R s t e) (test-self (g t (end R))))))))

      -- what is computed in any round leads on
      sound : (k : ℕ) (s : State) (B : Concept) → s ∈ states → B ∈ concepts → IsTrue (layer k s B) → On s B
      unfolding layer
      sound zero s B m b h = ends ((final-is s).0 h)
      sound (suc k) s B m b h = on (sound k) ((further-is (layer k) s B m b).0 h)
        where
          on : ((s : State) (B : Concept) → s ∈ states → B ∈ concepts → IsTrue (layer k s B) → On s B)
              → Found (λ s B. IsTrue (layer k s B)) s B → On s B
          on r (inl j) = r s B m b j
          on r (inr (inl (t, i, p))) = around p.0 (r t B i b p.1)
          on r (inr (inr (R, e, p))) = let t = p.1 in deeper p.0 t.2.0 (r t.0 (end R) t.1 (sane.end-in B R b p.0) t.2.1)

      -- where one more round changes nothing, all that leads on is there
      complete : (n : ℕ) → Still nodes (λ k. node_at (layer k)) n → {s : State} {B : Concept} → On s B → s ∈ states → B ∈ concepts
          → IsTrue (layer n s B)
      unfolding layer nodes
      complete n still {s} {B} (ends h) m b = passes (layer n s B) (start n)
        where
          start : (k : ℕ) → T (layer k s B)
          start zero = test-in (final-is s) h
          start (suc k) = further-keeps (layer k) s B (start k)
      complete n still {s} {B} (around {t = t} l w) m b =
          let i = loop-to s t B m l in
          passes (layer n s B) (still (s, B) (pairs-in m b)
          (test-in (further-is (layer n) s B m b) (inr (inl (t, i, (l, complete n still w i b))))))
      complete n still {s} {B} (deeper {t = t} {R = R} c d w) m b =
          let i = sane.down-in R s t d in
          passes (layer n s B) (still (s, B) (pairs-in m b)
          (test-in (further-is (layer n) s B m b)
          (inr (inr (R, ok.edge_in B R b c, (c, (t, i, (d, complete n still w i (sane.end-in B R b c)))))))))

      kept-is : (g : Table) → kept g ≡ g
      unfolding kept
      kept-is g =
          fun_ext (λ s. memo-is same-state ok.states-same.is states (λ s. memo same-concept concepts (g s)) s
          ∙ fun_ext (λ B. memo-is same-concept ok.concepts-same.is concepts (g s) B))

      done : Least (Still nodes (λ k. node_at (layer k))) onward_work.0 × (onward_work.1 ≡ layer onward_work.0)
      unfolding onward_work layer
      done =
          let w = fixpoint-is nodes node_at (λ g. kept (further g)) layer (λ k. sym (kept-is (further (layer k)))) layer-keeps (length nodes) 0 (length nodes) (omega arith)
          (omega arith) (λ m l. omega arith) in
          (w.0, w.1)

      -- THEOREM: what is computed is from where the way leads on
      pub onward-is : (s : State) (B : Concept) → s ∈ states → B ∈ concepts → IsTrue (onward s B) ↔ On s B
      onward-is s B m b = (
        λ h. sound onward_work.0 s B m b (rw done.1 at h),
        λ w. rw done.1 (complete onward_work.0 done.0.holds w m b),
      )
