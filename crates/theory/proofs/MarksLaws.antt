-- How many marks rounds make, over any rules' kind: by lists that have each mark once.
use Rattle.std.specs.Prelude.{◌≡◌, refl, Bool, true, false, not, ◌⊎◌, List, [], ◌∷◌, T, ℕ, zero, suc, ◌+◌, ◌*◌, ◌≤◌, ◌<◌, length, slice_index, sum, map, ◌++◌}
use Rattle.std.proofs.Common.{sym, ap, ◌∙◌, inl, inr, arith, ext_get_or, length-append, T_not}
use Rattle.std.proofs.lemmas.List.{length-map}
use Rattle.std.proofs.lemmas.List.Sums.{sum_by-cons, get_or-le-sum_by}
use Rattle.std.proofs.Math.Nat.{mul_assoc}
use mathlib.Core.List.Memᴰ
use Rattle.laws.specs.Member.{◌∈◌, Within, map-in, map-out}
use Rattle.laws.specs.Search.{and, and_left, and_right, and_both}
use Rattle.laws.specs.Numbers.{numbered, length-numbered, get_d_numbered}
use Rattle.laws.specs.Once.{AtMostOne}
use Rattle.laws.specs.Pairs.{pairs, pairs-in, pairs-out, length_pairs}
use Rattle.laws.specs.Select.{select, select_in, select-out}
use Rattle.laws.specs.Distinct.{Distinct, distinct-both, distinct-few, distinct-long, distinct-map, distinct-pairs, distinct-select}
use Rattle.theory.specs.Kind.{Kind}
use Rattle.theory.specs.Sheet.{Markable, Mark, Needed}
use Rattle.theory.specs.Marks.{Added, Counted, Stands, Adds, RoundCounts}
use Rattle.theory.specs.LawsOfMarks.{Countable, most}
use Rattle.theory.proofs.SheetLaws.{mark-markable, marks_stay, rounds-unique, sheet-stays}
use Rattle.theory.proofs.Tests.{sheet, mark-in, mark-out, rounds-bound, fit}

-- f 0 + f 1 + .. of the first n
abbrev total : (ℕ → ℕ) → ℕ → ℕ
total f zero = 0
total f (suc n) = total f n + f n

total-first : (f : ℕ → ℕ) (n : ℕ) → total f (suc n) ≡ f 0 + total (λ k. f (suc k)) n
total-first f zero = omega arith
total-first f (suc n) = omega (arith, total-first f n)

pub sum-total : (l : List ℕ) → sum l ≡ total (slice_index l) (length l)
sum-total [] = refl
sum-total (x ∷ l) = sum_by-cons (λ y. y) x l ∙ (ap (λ n. x + n) (sum-total l) ∙ sym (total-first (slice_index (x ∷ l)) (length l)))

module _ (𝓚 : Kind) where
  open 𝓚 use {Concept, State, concepts, states}

  abbrev pub Triple : Type 0
  Triple = State × State × Concept

  module _ (f : State → State → Concept → Type 0) where
    same : (m k : ℕ) (a : Counted 𝓚 f m) (b : Counted 𝓚 f k) → Within a.marks b.marks
    same m k a b (s, t, B) i = (b.are s t B).1 ((a.are s t B).0 i)

    -- THEOREM: a sheet has one number of marks
    pub counted-once : AtMostOne (Counted 𝓚 f)
    counted-once m k a b = sym a.many ∙ distinct-long a.marks b.marks a.once b.once (same m k a b) (same k m b a) ∙ b.many

  -- THEOREM: the counts of rounds are one row
  pub round-counts-once : (n : ℕ) → AtMostOne (RoundCounts 𝓚 n)
  round-counts-once n x y a b =
      ext_get_or 0 x y (a.long ∙ sym b.long) (λ k l. let h : k < n = omega (arith, a.long) in counted-once (Added 𝓚 k) _ _ (a.each k h) (b.each k h))

  -- THEOREM: after the rounds needed nothing is added
  pub adds-none : (n : ℕ) → Needed 𝓚 n → (k : ℕ) → n ≤ k → (m : ℕ) → Adds 𝓚 k m → m ≡ 0
  adds-none n needed k h m a =
      sym a.many
      ∙ empty a.marks
      (λ s t B i.
      let w = (a.are s t B).0 i in
      let stood = (sheet-stays 𝓚 n needed (suc k) (omega (arith, h)) s t B).0 w.then in
      w.before ((sheet-stays 𝓚 n needed k h s t B).1 stood))
    where
      empty : (l : List Triple) → ((s t : State) (B : Concept) → (s, t, B) ∈ l → ⊥) → length l ≡ 0
      empty [] h = refl
      empty ((s, t, B) ∷ l) h = absurd (h s t B (Memᴰ.head refl))

  abbrev Nested : Type 0
  Nested = State × (State × Concept)

  abbrev flat : Nested → Triple
  flat q = (q.0, q.1.0, q.1.1)

  abbrev nest : Triple → Nested
  nest x = (x.0, (x.1, x.2))

  -- every declared state, state and concept
  unfoldable pub triples : List Triple
  triples = map flat (pairs states (pairs states concepts))

  pub triple-in : (s t : State) (B : Concept) → Markable 𝓚 s t B → ◌∈◌ {A = Triple} (s, t, B) triples
  unfolding triples
  triple-in s t B p = map-in flat (pairs-in p.from (pairs-in p.to p.of))

  triple-out : (s t : State) (B : Concept) → ◌∈◌ {A = Triple} (s, t, B) triples → Markable 𝓚 s t B
  unfolding triples
  triple-out s t B m =
      let u = map-out flat (pairs states (pairs states concepts)) m in
      let w = pairs-out states (pairs states concepts) u.1 in
      let v = pairs-out states concepts w.1 in
      let e = u.2 in
      record {
        from = rw (ap (λ (x : Triple). x.0) e) w.0;
        to = rw (ap (λ (x : Triple). x.1) e) v.0;
        of = rw (ap (λ (x : Triple). x.2) e) v.1;
      }

  pub triples-long : length triples ≡ length states * (length states * length concepts)
  unfolding triples
  triples-long = rw (length-map, length_pairs, length_pairs) refl

  -- a sheet of declared marks has no more of them
  pub counted-few : (f : State → State → Concept → Type 0) → ((s t : State) (B : Concept) → f s t B → Markable 𝓚 s t B)
      → (m : ℕ) → Counted 𝓚 f m → m ≤ length states * (length states * length concepts)
  counted-few f declared m a =
      let few = distinct-few a.marks triples a.once (λ (s, t, B) i. triple-in s t B (declared s t B ((a.are s t B).0 i))) in
      omega (arith, few, a.many, triples-long)

  module _ (c : Countable 𝓚) where
    marked : ℕ → State → State → Concept → Bool
    marked n = sheet 𝓚 c.tests n

    is-marked : (n : ℕ) (s t : State) (B : Concept) → Mark 𝓚 n s t B → T (marked n s t B)
    unfolding marked
    is-marked n = mark-in 𝓚 c.tests c.decide c.sane n

    marked-is : (n : ℕ) (s t : State) (B : Concept) → Markable 𝓚 s t B → T (marked n s t B) → Mark 𝓚 n s t B
    unfolding marked
    marked-is n = mark-out 𝓚 c.tests c.decide c.sane n

    -- what one more round marks stood before, or is added
    pub split : (n : ℕ) (s t : State) (B : Concept) → Mark 𝓚 (suc n) s t B → Mark 𝓚 n s t B ⊎ Added 𝓚 n s t B
    split n s t B m = look (marked n s t B) (marked-is n s t B (mark-markable 𝓚 (suc n) s t B m)) (is-marked n s t B)
      where
        look : (b : Bool) → (T b → Mark 𝓚 n s t B) → (Mark 𝓚 n s t B → T b) → Mark 𝓚 n s t B ⊎ Added 𝓚 n s t B
        look true is of = inl (is tt)
        look false is of = inr (record { then = m; before = λ k. of k })

    triples-once : Distinct triples
    unfolding triples
    triples-once =
        distinct-map flat (pairs states (pairs states concepts))
        (λ p q i j e. ap nest e)
        (distinct-pairs states (pairs states concepts) c.states-once (distinct-pairs states concepts c.states-once c.concepts-once))

    -- a sheet of declared marks that a test decides has its number
    module _ (f : State → State → Concept → Type 0) (test : Triple → Bool)
        (into : (s t : State) (B : Concept) → f s t B → Markable 𝓚 s t B × T (test (s, t, B)))
        (out : (s t : State) (B : Concept) → Markable 𝓚 s t B → T (test (s, t, B)) → f s t B) where
      counted-by : Counted 𝓚 f (length (select triples test))
      counted-by = record { marks = select triples test; once = distinct-select triples test triples-once; are = λ s t B. (to s t B, from s t B); many = refl }
        where
          to : (s t : State) (B : Concept) → (s, t, B) ∈ select triples test → f s t B
          to s t B i = let w = select-out triples test i in out s t B (triple-out s t B w.0) w.1

          from : (s t : State) (B : Concept) → f s t B → (s, t, B) ∈ select triples test
          from s t B m = let w = into s t B m in select_in triples test (triple-in s t B w.0) w.1

    -- THEOREM: so many marks stand after each number of rounds
    pub stands-there : (n : ℕ) → (m : ℕ) × Stands 𝓚 n m
    stands-there n = (_, counted-by (Mark 𝓚 n) (λ p. marked n p.0 p.1 p.2) (λ s t B m. (mark-markable 𝓚 n s t B m, is-marked n s t B m)) (marked-is n))

    added : ℕ → Triple → Bool
    added n p = let old = not (marked n p.0 p.1 p.2) in and (marked (suc n) p.0 p.1 p.2) old

    -- THEOREM: and so many each round adds
    pub adds-there : (n : ℕ) → (m : ℕ) × Adds 𝓚 n m
    unfolding added
    adds-there n = (_, counted-by (Added 𝓚 n) (added n) into out)
      where
        fresh : (b : Bool) → (T b → ⊥) → T (not b)
        fresh true h = absurd (h tt)
        fresh false h = tt

        into : (s t : State) (B : Concept) → Added 𝓚 n s t B → Markable 𝓚 s t B × T (added n (s, t, B))
        into s t B a =
            let p = mark-markable 𝓚 (suc n) s t B a.then in
            (p, and_both (marked (suc n) s t B) _ (is-marked (suc n) s t B a.then) (fresh (marked n s t B) (λ h. a.before (marked-is n s t B p h))))

        out : (s t : State) (B : Concept) → Markable 𝓚 s t B → T (added n (s, t, B)) → Added 𝓚 n s t B
        out s t B p h = record {
          then = marked-is (suc n) s t B p (and_left (marked (suc n) s t B) _ h);
          before = λ k. T_not (marked n s t B) (and_right (marked (suc n) s t B) _ h) (is-marked n s t B k);
        }

    -- THEOREM: so the first n rounds have their counts
    pub counts-there : (n : ℕ) → (counts : List ℕ) × RoundCounts 𝓚 n counts
    counts-there n = (numbered many n, record { long = length-numbered many n; each = λ k h. rw (get_d_numbered many n k 0 h) ((adds-there k).1) })
      where
        many : ℕ → ℕ
        many k = (adds-there k).0

    -- round 0 has as many marks as states × concepts
    first : Stands 𝓚 0 (length states * length concepts)
    first = record { marks = map twice all; once = distinct-map twice all one (distinct-pairs states concepts c.states-once c.concepts-once); are = λ s t B. (to s t B, from s t B); many = length-map all twice ∙ length_pairs states concepts }
      where
        all : List (State × Concept)
        all = pairs states concepts

        twice : State × Concept → Triple
        twice q = (q.0, q.0, q.1)

        back : Triple → State × Concept
        back x = (x.0, x.2)

        one : (p q : State × Concept) → p ∈ all → q ∈ all → twice p ≡ twice q → p ≡ q
        one p q i j e = ap back e

        to : (s t : State) (B : Concept) → (s, t, B) ∈ map twice all → Mark 𝓚 0 s t B
        to s t B i =
            let w = map-out twice all i in
            let v = pairs-out states concepts w.1 in
            let a = ap (λ (x : Triple). x.0) w.2 in
            let b = ap (λ (x : Triple). x.1) w.2 in
            let d = ap (λ (x : Triple). x.2) w.2 in
            (record { from = rw a v.0; to = rw b v.0; of = rw d v.1 }, a ∙ sym b)

        from : (s t : State) (B : Concept) → Mark 𝓚 0 s t B → (s, t, B) ∈ map twice all
        from s t B m = rw m.1 (map-in twice (pairs-in m.0.to m.0.of))

    -- a round takes the marks that stand to as many more as it adds
    pub one-more : (n a b : ℕ) → Stands 𝓚 n a → Adds 𝓚 n b → Stands 𝓚 (suc n) (a + b)
    one-more n a b x y = record { marks = x.marks ++ y.marks; once = distinct-both x.marks y.marks x.once y.once apart; are = λ s t B. (λ i. to s t B (Memᴰ.append_cases x.marks i), λ m. from s t B (split n s t B m)); many = length-append x.marks y.marks ∙ omega (arith, x.many, y.many) }
      where
        apart : (p : Triple) → p ∈ x.marks → p ∈ y.marks → ⊥
        apart (s, t, B) i j = let w = (y.are s t B).0 j in w.before ((x.are s t B).0 i)

        to : (s t : State) (B : Concept) → ((s, t, B) ∈ x.marks) ⊎ ((s, t, B) ∈ y.marks) → Mark 𝓚 (suc n) s t B
        to s t B (inl i) = marks_stay 𝓚 n s t B ((x.are s t B).0 i)
        to s t B (inr j) = let w = (y.are s t B).0 j in w.then

        from : (s t : State) (B : Concept) → Mark 𝓚 n s t B ⊎ Added 𝓚 n s t B → (s, t, B) ∈ (x.marks ++ y.marks)
        from s t B (inl m) = Memᴰ.append_left y.marks ((x.are s t B).1 m)
        from s t B (inr a) = Memᴰ.append_right x.marks ((y.are s t B).1 a)

    stands-after : (f : ℕ → ℕ) (n : ℕ) → ((k : ℕ) → k < n → Adds 𝓚 k (f k)) → Stands 𝓚 n (total f n + length states * length concepts)
    stands-after f zero h = let e : 0 + length states * length concepts ≡ length states * length concepts = omega arith in rw e first
    stands-after f (suc n) h =
        let e : total f n + f n + length states * length concepts ≡ total f n + length states * length concepts + f n = omega arith in
        rw e (one-more n _ _ (stands-after f n (λ k l. h k (omega arith))) (h n (omega arith)))

    -- THEOREM: what the rounds added and states × concepts stand in the sheet
    pub stands-sum : (n : ℕ) (counts : List ℕ) → RoundCounts 𝓚 n counts → Stands 𝓚 n (sum counts + length states * length concepts)
    stands-sum n counts r = let s = stands-after (slice_index counts) n r.each in rw (sum-total counts, r.long) s

    -- THEOREM: and no other number of marks does
    pub counts-make-sheet : (n : ℕ) (counts : List ℕ) (m : ℕ) → RoundCounts 𝓚 n counts → Stands 𝓚 n m → m ≡ sum counts + length states * length concepts
    counts-make-sheet n counts m r s = counted-once (Mark 𝓚 n) m _ s (stands-sum n counts r)

    -- THEOREM: each round up to the rounds needed adds a mark
    pub adds-some : (n : ℕ) → Needed 𝓚 n → (k : ℕ) → k < n → (m : ℕ) → Adds 𝓚 k m → 1 ≤ m
    adds-some n needed k l zero a = absurd (needed.none_before k l (λ s t B m. stood s t B (split k s t B m)))
      where
        no : (l : List Triple) (p : Triple) → p ∈ l → length l ≡ 0 → ⊥
        no [] p i e = Memᴰ.not-nil i
        no (q ∷ l) p i e = omega arith

        stood : (s t : State) (B : Concept) → Mark 𝓚 k s t B ⊎ Added 𝓚 k s t B → Mark 𝓚 k s t B
        stood s t B (inl m) = m
        stood s t B (inr x) = absurd (no a.marks (s, t, B) ((a.are s t B).1 x) a.many)
    adds-some n needed k l (suc m) a = omega arith

    -- THEOREM: all rounds together add at most concepts × states × (states − 1) marks
    pub sum-most : (n : ℕ) (counts : List ℕ) → RoundCounts 𝓚 n counts → sum counts ≤ most 𝓚
    sum-most n counts r =
        let few = counted-few (Mark 𝓚 n) (mark-markable 𝓚 n) _ (stands-sum n counts r) in
        let e = mul_assoc (length states) (length states) (length concepts) in
        fit (sum counts) (length concepts) (length states) (length states * length concepts) (omega (arith, few, e)) (omega arith)

    -- THEOREM: so no round adds more
    pub adds-most : (n m : ℕ) → Adds 𝓚 n m → m ≤ most 𝓚
    adds-most n m a =
        let w = counts-there (suc n) in
        let e = counted-once (Added 𝓚 n) m _ a (w.1.each n (omega arith)) in
        let h : slice_index w.0 n ≤ sum w.0 = get_or-le-sum_by (λ y. y) w.0 n 0 (omega (arith, w.1.long)) in
        omega (arith, e, h, sum-most (suc n) w.0 w.1)

    -- THEOREM: up to the rounds needed there are no more counts
    pub counts-most : (n : ℕ) → Needed 𝓚 n → (k : ℕ) → k ≤ n → (counts : List ℕ) → RoundCounts 𝓚 k counts → length counts ≤ most 𝓚
    counts-most n needed k h counts r =
        let w = rounds-bound 𝓚 c.tests c.decide c.sane in
        let e = rounds-unique 𝓚 n w.0 needed w.2 in
        omega (arith, e, w.1, h, r.long)
