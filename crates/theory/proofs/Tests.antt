-- Calculation: a rules' kind as tests that compute, the sheet that they come to round by round, and the bound on the rounds.
use Rattle.std.specs.Prelude.{◌≡◌, ◌↔◌, Bool, ◌⊎◌, List, length, IsTrue}
use Rattle.std.proofs.Math.Path.{refl, fun_ext, sym, ap}
use Rattle.std.proofs.Common.{◌∙◌, inl, inr, arith}
use Prim.Native.Nat.{ℕ, zero, suc, ◌+◌, ◌*◌, ◌-◌, ◌≤◌}
use Rattle.std.proofs.Math.Nat.{mul-le-mul_right}
use Rattle.std.proofs.Math.Dec.{T}
use Rattle.laws.specs.Member.{◌∈◌}
use Rattle.laws.specs.Search.{any, or, or_left, and}
use Rattle.laws.specs.Truth.{test-in, test-out, test-same, test-and, test-and-then, test-or, test-any, test-equals}
use Rattle.laws.specs.Count.{count}
use Rattle.laws.specs.Pairs.{pairs, pairs-in, pairs-out, length_pairs, count-pairs, count-each}
use Rattle.laws.specs.Rounds.{Least, least-same, Still, needed}
use Rattle.laws.specs.Fixpoint.{memo, memo-is, fixpoint, fixpoint-is}
use Rattle.theory.specs.Kind.{Kind, Sane}
use Rattle.theory.specs.Tests.{Tests, AreTestsOf}
use Rattle.theory.specs.Sheet.{Markable, Round, kept, tested, joined, hung, Mark, Unchanged, Needed}
use Rattle.theory.proofs.SheetLaws.{mark-markable}

pub fit : (n c s k : ℕ) → n + k ≤ s * s * c → s * c ≤ k → n ≤ c * s * (s - 1)
fit n c zero k h g = omega arith
fit n c (suc s) k h g = let e : suc s - 1 ≡ s = omega arith in rw e (omega arith)

room : (c s k : ℕ) → s * c ≤ k → s * s * c ≤ k + c * s * (s - 1)
room c zero k g = omega arith
room c (suc s) k g = let e : suc s - 1 ≡ s = omega arith in rw e (omega arith)

module _ (𝓚 : Kind) (𝓣 : Tests 𝓚) where
  open 𝓚 use {Concept, State, Edge, concepts, states, end, child, test, down, up}
  open 𝓣 use {edges, same-state, same-concept, has-child, has-test, has-down, has-up}

  unfoldable pub joins : (State → State → Concept → Bool) → State → State → Concept → State → Bool
  joins f s t B u = let b = f u t B in and (f s u B) b

  -- a child by R, down to u, a loop from u to v at the child, and back up
  unfoldable pub hangs_to : (State → State → Concept → Bool) → State → Edge → State → State → Bool
  hangs_to f t R u v = let d = has-up R v t in and (f u v (end R)) d

  unfoldable pub hangs_from : (State → State → Concept → Bool) → State → State → Edge → State → Bool
  hangs_from f s t R u = let c = any states (hangs_to f t R u) in and (has-down R s u) c

  unfoldable pub hangs : (State → State → Concept → Bool) → State → State → Concept → Edge → Bool
  hangs f s t B R = let c = any states (hangs_from f s t R) in and (has-child B R) c

  -- one round of the sheet f
  unfoldable pub round : (State → State → Concept → Bool) → State → State → Concept → Bool
  round f s t B = let r = any edges (hangs f s t B) in let q = or (any states (joins f s t B)) r in or (f s t B) (or (has-test B s t) q)

  unfoldable pub sheet : ℕ → State → State → Concept → Bool
  sheet zero s t B = same-state s t
  sheet (suc k) s t B = round (sheet k) s t B

  abbrev pub Spot : Type 0
  Spot = (State × State) × Concept

  -- every declared state, state and concept
  unfoldable pub places : List Spot
  places = pairs (pairs states states) concepts

  abbrev pub at : (State → State → Concept → Bool) → Spot → Bool
  at f p = f p.0.0 p.0.1 p.1

  -- how many marks stand in a sheet
  unfoldable pub marks : (State → State → Concept → Bool) → ℕ
  marks f = count places (at f)

  -- a sheet that remembers what was computed
  unfoldable pub table : (State → State → Concept → Bool) → State → State → Concept → Bool
  table f = memo same-state states (λ s. memo same-state states (λ t. memo same-concept concepts (f s t)))

  abbrev pub most : ℕ
  most = length concepts * length states * (length states - 1)

  -- the rounds needed and the closed sheet, as they are computed
  unfoldable pub work : ℕ × (State → State → Concept → Bool)
  work = fixpoint places at (λ f. table (round f)) most 0 (λ s t B. same-state s t)

  -- the sheet after a number of rounds, as it is computed
  unfoldable pub after : ℕ → State → State → Concept → Bool
  after zero = λ s t B. same-state s t
  after (suc k) = let f = after k in table (round f)

  length-places : length places ≡ length states * length states * length concepts
  unfolding places
  length-places = rw (length_pairs, length_pairs)

  sheet-keeps : (k : ℕ) (p : Spot) → T (at (sheet k) p) → T (at (sheet (suc k)) p)
  unfolding sheet round
  sheet-keeps k p h = or_left (at (sheet k) p) _ h

  pub spot_in : (s t : State) (B : Concept) → Markable 𝓚 s t B → ◌∈◌ {A = Spot} ((s, t), B) places
  unfolding places
  spot_in s t B p = pairs-in (pairs-in p.from p.to) p.of

  pub spot_out : (p : Spot) → p ∈ places → Markable 𝓚 p.0.0 p.0.1 p.1
  unfolding places
  spot_out p m =
      let w = pairs-out (pairs states states) concepts m in
      let v = pairs-out states states w.0 in
      record { from = v.0; to = v.1; of = w.1 }

  module _ (ok : AreTestsOf 𝓚 𝓣) (sane : Sane 𝓚) where
    -- what a round makes of the marks M, with where its states and edge are found
    abbrev Found : (State → State → Concept → Type 0) → State → State → Concept → Type 0
    Found M s t B =
        M s t B ⊎ (test B s t ⊎ (((u : State) × (u ∈ states) × (M s u B × M u t B)) ⊎ ((R : Edge) × (R ∈ edges)
        × (child B R × ((u : State) × (u ∈ states) × (down R s u × ((v : State) × (v ∈ states) × (M u v (end R) × up R v t))))))))

    made : (n : ℕ) (s t : State) (B : Concept) → s ∈ states → B ∈ concepts → Found (Mark 𝓚 n) s t B → Mark 𝓚 (suc n) s t B
    made n s t B m b (inl k) = (mark-markable 𝓚 n s t B k, kept k)
    made n s t B m b (inr (inl e)) = (record { from = m; to = sane.test_in B s t e; of = b }, tested e)
    made n s t B m b (inr (inr (inl (u, i, p)))) = (record { from = m; to = (mark-markable 𝓚 n u t B p.1).to; of = b }, joined p.0 p.1)
    made n s t B m b (inr (inr (inr (R, i, p)))) =
        let u = p.1 in
        let v = u.2.1 in
        (record { from = m; to = sane.up_in R v.0 t v.2.1; of = b }, hung p.0 u.2.0 v.2.0 v.2.1)

    found : (n : ℕ) (s t : State) (B : Concept) → B ∈ concepts → Round 𝓚 (Mark 𝓚 n) s t B → Found (Mark 𝓚 n) s t B
    found n s t B b (kept k) = inl k
    found n s t B b (tested e) = inr (inl e)
    found n s t B b (joined {u = u} k l) = inr (inr (inl (u, (mark-markable 𝓚 n s u B k).to, (k, l))))
    found n s t B b (hung {R = R} {u = u} {v = v} c d k e) =
        let p = mark-markable 𝓚 n u v (end R) k in
        inr (inr (inr (R, ok.edge_in B R b c, (c, (u, p.from, (d, (v, p.to, (k, e))))))))

    -- in each round the sheet that is computed is the definition's
    pub mark-is : (n : ℕ) (s t : State) (B : Concept) → s ∈ states → B ∈ concepts → IsTrue (sheet n s t B) ↔ Mark 𝓚 n s t B
    unfolding sheet round joins hangs hangs_from hangs_to
    mark-is zero s t B m b =
        test-same (test-equals same-state ok.states-same s t) (λ e. (record { from = m; to = rw e at m; of = b }, e)) (λ k. k.1)
    mark-is (suc n) s t B m b =
        test-same
        (test-or (mark-is n s t B m b) (test-or (ok.test B s t b) (test-or
        (test-any states (λ u i. test-and (mark-is n s u B m b) (mark-is n u t B i b)))
        (test-any edges (λ R e. test-and-then (ok.child B R b) (λ c.
        test-any states (λ u i. test-and (ok.down R s u e)
        (test-any states (λ v j. test-and (mark-is n u v (end R) i (sane.end-in B R b c)) (ok.up R v t e))))))))))
        (made n s t B m b) (λ k. found n s t B b k.1)

    pub mark-in : (n : ℕ) (s t : State) (B : Concept) → Mark 𝓚 n s t B → T (sheet n s t B)
    mark-in n s t B k = let p = mark-markable 𝓚 n s t B k in test-in (mark-is n s t B p.from p.of) k

    pub mark-out : (n : ℕ) (s t : State) (B : Concept) → Markable 𝓚 s t B → T (sheet n s t B) → Mark 𝓚 n s t B
    mark-out n s t B p h = test-out (mark-is n s t B p.from p.of) h

    still→unchanged : (n : ℕ) → Still places (λ k. at (sheet k)) n → Unchanged 𝓚 n
    still→unchanged n still s t B m =
        let p = mark-markable 𝓚 (suc n) s t B m in
        mark-out n s t B p (still ((s, t), B) (spot_in s t B p) (mark-in (suc n) s t B m))

    unchanged→still : (n : ℕ) → Unchanged 𝓚 n → Still places (λ k. at (sheet k)) n
    unchanged→still n same p m h =
        mark-in n p.0.0 p.0.1 p.1 (same p.0.0 p.0.1 p.1 (mark-out (suc n) p.0.0 p.0.1 p.1 (spot_out p m) h))

    needed-in : (n : ℕ) → Least (Still places (λ k. at (sheet k))) n → Needed 𝓚 n
    needed-in = least-same (Still places (λ k. at (sheet k))) (Unchanged 𝓚) still→unchanged unchanged→still

    -- round 0 has a mark for each state and concept
    first_marks : length states * length concepts ≤ count places (at (sheet 0))
    unfolding places sheet
    first_marks =
        let e = count-each (λ q. same-state q.0 q.1) states states (λ s m. (s, m, ok.states-same.self s)) in
        rw (count-pairs (λ q. same-state q.0 q.1) (pairs states states) concepts) (omega (arith, mul-le-mul_right (length concepts) e))

    -- THEOREM: rounds needed there are, and never more than concepts × states × (states − 1)
    pub rounds-bound : (n : ℕ) × (n ≤ length concepts * length states * (length states - 1)) × Needed 𝓚 n
    rounds-bound =
        let w = needed places (λ k. at (sheet k)) sheet-keeps in
        (w.0, fit w.0 (length concepts) (length states) _ (rw length-places at w.1) first_marks, needed-in w.0 w.2)

    table_is : (f : State → State → Concept → Bool) → table f ≡ f
    unfolding table
    table_is f =
        fun_ext (λ s. memo-is same-state ok.states-same.is states (λ s. memo same-state states (λ t. memo same-concept concepts (f s t))) s
        ∙ fun_ext (λ t. memo-is same-state ok.states-same.is states (λ t. memo same-concept concepts (f s t)) t
        ∙ fun_ext (λ B. memo-is same-concept ok.concepts-same.is concepts (f s t) B)))

    -- what is computed as rounds needed is that, and what is computed as closed sheet is its sheet
    pub works : Needed 𝓚 work.0 × (work.1 ≡ sheet work.0) × (work.0 ≤ most)
    unfolding work sheet
    works =
        let w = fixpoint-is places at (λ f. table (round f)) sheet (λ k. sym (table_is (round (sheet k)))) sheet-keeps most 0 most (omega arith)
        (rw length-places (room (length concepts) (length states) _ first_marks)) (λ m l. omega arith) in
        (needed-in work.0 w.0, w.1, w.2)

    pub after_is : (n : ℕ) → after n ≡ sheet n
    unfolding after sheet
    after_is zero = refl
    after_is (suc n) = table_is (round (after n)) ∙ ap round (after_is n)
