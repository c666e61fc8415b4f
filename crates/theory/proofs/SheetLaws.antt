-- The rounds of any rules' kind: marks stay, the rounds needed are few and final, and the closed sheet is the smallest closed one.
use Rattle.std.specs.Prelude.{◌≡◌, refl, ◌↔◌, ℕ, zero, suc, ◌≤◌}
use Rattle.std.proofs.Common.{inl, inr, eq-or-lt_of_le, arith}
use Rattle.laws.specs.Member.{◌∈◌}
use Rattle.laws.specs.Rounds.{least-once}
use Rattle.theory.specs.Kind.{Kind, Sane}
use Rattle.theory.specs.Sheet.{Markable, Round, kept, tested, joined, hung, Mark, Unchanged, Needed, Closed}
use Rattle.theory.specs.Tree.{root, Loop, here, twice, below, Tree, loop↔tree}

module _ (𝓚 : Kind) where
  open 𝓚 use {Concept, State, Edge, concepts, states, end, child, test, down, up}

  round_mono : {f g : State → State → Concept → Type 0} → ((s t : State) (B : Concept) → f s t B → g s t B) → {s t : State} {B : Concept}
      → Round 𝓚 f s t B → Round 𝓚 g s t B
  round_mono h {s} {t} {B} (kept m) = kept (h s t B m)
  round_mono h (tested e) = tested e
  round_mono h {s} {t} {B} (joined {u = u} m n) = joined (h s u B m) (h u t B n)
  round_mono h (hung {R = R} {u = u} {v = v} c d m e) = hung c d (h u v (end R) m) e

  pub mark-markable : (n : ℕ) (s t : State) (B : Concept) → Mark 𝓚 n s t B → Markable 𝓚 s t B
  mark-markable zero s t B m = m.0
  mark-markable (suc n) s t B m = m.0

  pub marks_stay : (n : ℕ) (s t : State) (B : Concept) → Mark 𝓚 n s t B → Mark 𝓚 (suc n) s t B
  marks_stay n s t B m = (mark-markable n s t B m, kept m)

  -- a mark of a round stands in every later one
  pub marks-later : (m n : ℕ) → n ≤ m → (s t : State) (B : Concept) → Mark 𝓚 n s t B → Mark 𝓚 m s t B
  marks-later zero n h s t B k = let e : n ≡ 0 = omega arith in rw e at k
  marks-later (suc m) n h s t B k =
      elim (eq-or-lt_of_le h) [ inl e ↦ rw e at k | inr l ↦ marks_stay m s t B (marks-later m n (omega arith) s t B k) ]

  -- a sheet that one more round leaves as it is stays so for ever
  pub unchanged-later : (n : ℕ) → Unchanged 𝓚 n → (m : ℕ) → n ≤ m → (s t : State) (B : Concept) → Mark 𝓚 m s t B → Mark 𝓚 n s t B
  unchanged-later n still zero h s t B k = let e : n ≡ 0 = omega arith in rw e k
  unchanged-later n still (suc m) h s t B k =
      elim (eq-or-lt_of_le h) [
        | inl e ↦ rw e k
        | inr l ↦ still s t B (k.0, round_mono (unchanged-later n still m (omega arith)) k.1)
      ]

  -- THEOREM: the rounds needed are unique
  pub rounds-unique : (m n : ℕ) → Needed 𝓚 m → Needed 𝓚 n → m ≡ n
  rounds-unique m n h k = least-once (Unchanged 𝓚) m n h k

  -- THEOREM: after the rounds needed the sheet no longer changes
  pub sheet-stays : (n : ℕ) → Needed 𝓚 n → (m : ℕ) → n ≤ m → (s t : State) (B : Concept) → Mark 𝓚 m s t B ↔ Mark 𝓚 n s t B
  sheet-stays n needed m h s t B = (unchanged-later n needed.holds m h s t B, marks-later m n h s t B)

  -- THEOREM: the sheet after the rounds needed is closed
  pub sheet-closed : (n : ℕ) → Needed 𝓚 n → Closed 𝓚 (Mark 𝓚 n)
  sheet-closed n needed =
      record
      { first = λ s B p. marks-later n 0 (omega arith) s s B (p, refl); round = λ s t B p r. needed.holds s t B (p, r) }

  -- THEOREM: every mark of every round stands in each closed sheet
  pub sheet-smallest : (f : State → State → Concept → Type 0) → Closed 𝓚 f → (n : ℕ) (s t : State) (B : Concept) → Mark 𝓚 n s t B → f s t B
  sheet-smallest f closed zero s t B m = rw m.1 (closed.first t B (record { from = m.0.to; to = m.0.to; of = m.0.of }))
  sheet-smallest f closed (suc n) s t B m = closed.round s t B m.0 (round_mono (sheet-smallest f closed n) m.1)

  -- every mark of every round is a loop
  pub mark→loop : (n : ℕ) (s t : State) (B : Concept) → Mark 𝓚 n s t B → Loop 𝓚 B s t
  mark→loop zero s t B m = rw m.1 here
  mark→loop (suc n) s t B m = mean m.1 (mark→loop n)
    where
      mean : Round 𝓚 (Mark 𝓚 n) s t B → ((s t : State) (B : Concept) → Mark 𝓚 n s t B → Loop 𝓚 B s t) → Loop 𝓚 B s t
      mean (kept k) r = r s t B k
      mean (tested e) r = Loop.tested e
      mean (joined {u = u} k l) r = twice (r s u B k) (r u t B l)
      mean (hung {R = R} {u = u} {v = v} c d k e) r = below c d (r u v (end R) k) e

  module _ (sane : Sane 𝓚) where
    -- a sheet that one more round leaves as it is has every loop at a declared state and a valid concept
    pub loop→mark : (n : ℕ) → Unchanged 𝓚 n → {B : Concept} {s t : State} → Loop 𝓚 B s t → B ∈ concepts → s ∈ states → Mark 𝓚 n s t B
    loop→mark n still (here {B = B} {s = s}) b m = marks-later n 0 (omega arith) s s B (record { from = m; to = m; of = b }, refl)
    loop→mark n still (Loop.tested {B = B} {s = s} {t = t} e) b m = still s t B (record { from = m; to = sane.test_in B s t e; of = b }, tested e)
    loop→mark n still (twice {B = B} {s = s} {t = t} {u = u} l k) b m =
        let x = loop→mark n still l b m in
        let p = mark-markable n s t B x in
        let y = loop→mark n still k b p.to in
        still s u B (record { from = m; to = (mark-markable n t u B y).to; of = b }, joined x y)
    loop→mark n still (below {B = B} {R = R} {s = s} {t = t} {u = u} {v = v} c d l e) b m =
        let x = loop→mark n still l (sane.end-in B R b c) (sane.down-in R s t d) in
        still s v B (record { from = m; to = sane.up_in R u v e; of = b }, hung c d x e)

    -- THEOREM: a mark stands in the closed sheet exactly when a path leads, in the tree grown from its concept, from the root back to the root
    pub mark↔tree : (n : ℕ) → Needed 𝓚 n → (s t : State) (B : Concept) → s ∈ states → B ∈ concepts → Mark 𝓚 n s t B ↔ Tree 𝓚 (root B) s (root B) t
    mark↔tree n needed s t B m b =
        (λ k. (loop↔tree 𝓚).0 (mark→loop n s t B k), λ p. loop→mark n needed.holds ((loop↔tree 𝓚).1 p) b m)
