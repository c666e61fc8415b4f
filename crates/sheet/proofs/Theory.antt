-- What a round adds uses a mark that the round before added; and what the loops find is that.
use Rattle.std.specs.Prelude.{◌≡◌, refl, ◌↔◌, ◌⊎◌, List, ℕ, suc, ◌+◌, ◌<◌, get_or}
use Rattle.std.proofs.Common.{sym, ◌∙◌, inl, inr, ⊎_elim, arith}
use Rattle.std.proofs.Math.Decide.{ℕ_discrete}
use Rattle.std.specs.Int.{bit_at}
use Rattle.kinds.specs.Kinds.{most_states, base}
use Rattle.theory.specs.Kind.{Kind}
use Rattle.theory.specs.Sheet.{Markable, Round, kept, tested, joined, hung, Mark}
use Rattle.theory.proofs.SheetLaws.{mark-markable, marks_stay}
use Rattle.sets.specs.declared.concepts.ConceptSet.{ConceptSet}
use Rattle.rules.specs.declared.rows.Rows.{Rows}
use Rattle.sets.specs.Relations.{Relates, pair, At}
use Rattle.rules.specs.Rows.{most_concepts, kind_of, Gets}
use Rattle.rules.proofs.Able.{Low, low_of, may_of, of_may}
use Rattle.sheet.specs.declared.marks.Marks.{Marks}
use Rattle.sheet.specs.Pairs.{RowAt}
use Rattle.sheet.specs.Finds.{AllRows, JoinedFrom, Joins, ThroughChildren, Own, IsTurn, FirstTurn}
use Rattle.theory.specs.Marks.{Added}
use Rattle.sheet.specs.Sheets.{Holds}
use Rattle.sheet.specs.Meant.{Uses, first, second, child_of, IsKnown, AddsByNew}

-- ---- any rules' kind

module _ (𝓚 : Kind) where
  open 𝓚 use {Concept, State, Edge, concepts, states, end, child, test, down, up}

  pub uses_round : (f : State → State → Concept → Type 0) (g : State → State → Concept → Type 0)
      → ((s t : State) (B : Concept) → g s t B → f s t B)
      → (s t : State) (B : Concept) → Uses 𝓚 f g s t B → Round 𝓚 f s t B
  uses_round f g h s t B (first {u = u} x y) = joined (h s u B x) y
  uses_round f g h s t B (second {u = u} x y) = joined x (h u t B y)
  uses_round f g h s t B (child_of {R = R} {u = u} {v = v} c d m e) = hung c d (h u v (end R) m) e

  -- round 1: a test, or a use of round 0's marks
  pub first_round : (s t : State) (B : Concept) → Mark 𝓚 1 s t B → Mark 𝓚 0 s t B ⊎ (test B s t ⊎ Uses 𝓚 (Mark 𝓚 0) (Mark 𝓚 0) s t B)
  first_round s t B m = side m.1
    where
      side : Round 𝓚 (Mark 𝓚 0) s t B → Mark 𝓚 0 s t B ⊎ (test B s t ⊎ Uses 𝓚 (Mark 𝓚 0) (Mark 𝓚 0) s t B)
      side (kept m) = inl m
      side (tested e) = inr (inl e)
      side (joined x y) = inr (inr (first x y))
      side (hung c d m e) = inr (inr (child_of c d m e))

  -- the next rounds, where it is known what is marked
  module _ (n : ℕ) (known : IsKnown 𝓚 n) where
    pub split : (s t : State) (B : Concept) → Mark 𝓚 (suc n) s t B → Mark 𝓚 n s t B ⊎ Added 𝓚 n s t B
    split s t B m = side (known s t B m.0)
      where
        side : Dec (Mark 𝓚 n s t B) → Mark 𝓚 n s t B ⊎ Added 𝓚 n s t B
        side (yes p) = inl p
        side (no p) = inr (record { then = m; before = p })

    -- THEOREM: what the round after next adds uses a mark that the next round adds
    pub adds_by_new : AddsByNew 𝓚 n
    adds_by_new s t B m = side m.1
      where
        both : {u : State} → Mark 𝓚 (suc n) s u B → Mark 𝓚 (suc n) u t B → Mark 𝓚 n s u B ⊎ Added 𝓚 n s u B
            → Mark 𝓚 n u t B ⊎ Added 𝓚 n u t B
            → Mark 𝓚 (suc n) s t B ⊎ Uses 𝓚 (Mark 𝓚 (suc n)) (Added 𝓚 n) s t B
        both x y (inl p) (inl q) = inl (m.0, joined p q)
        both x y (inl p) (inr q) = inr (second x q)
        both x y (inr p) q = inr (first p y)

        side : Round 𝓚 (Mark 𝓚 (suc n)) s t B → Mark 𝓚 (suc n) s t B ⊎ Uses 𝓚 (Mark 𝓚 (suc n)) (Added 𝓚 n) s t B
        side (kept k) = inl k
        side (tested e) = inl (m.0, tested e)
        side (joined {u = u} x y) = both x y (split s u B x) (split u t B y)
        side (hung {R = R} {u = u} {v = v} c d k e) = ⊎_elim (λ p. inl (m.0, hung c d p e)) (λ p. inr (child_of c d p e))
            (split u v (end R) k)

-- ---- rows

module _ (rows : Rows) where
  abbrev K : Kind
  K = kind_of rows

  -- what the loops find uses a mark of the delta
  module _ (f g : ℕ → ℕ → ℕ → Type 0) (sheet delta : Marks) (hf : Holds f sheet.rows) (hg : Holds g delta.rows)
      (mf : (s t B : ℕ) → f s t B → Markable K s t B) (mg : (s t B : ℕ) → g s t B → Markable K s t B) where
    uses_of : (a b k : ℕ) → a < most_states → b < most_states → k < most_concepts
        → Joins delta sheet (pair a b) k ⊎ ThroughChildren delta.rows rows (pair a b) k
        → Uses K f g a b k
    uses_of a b k ha hb hk (inl w) = meet w.number w.of w.holds
      where
        meet : (s : ℕ) → s < most_states → JoinedFrom delta sheet s (pair a b) k → Uses K f g a b k
        meet s hs (inl v) =
            let u = v.number in
            let j = v.holds.holds in
            let hu = delta.paired.low s u v.of in
            let ht = sheet.paired.low u v.holds.number v.holds.of in
            let q = j.there in
            let es : s ≡ a = omega arith in
            let et : v.holds.number ≡ b = omega arith in
            let x = (hg.at s u k hs hu hk).0 j.has in
            let y = (hf.at u v.holds.number k hu ht hk).0 j.goes in
            first {u = u} (rw es at x) (rw et at y)
        meet s hs (inr v) =
            let r = v.number in
            let u = v.holds.number in
            let j = v.holds.holds in
            let hr = v.of in
            let hu = delta.paired.low s u v.holds.of in
            let q = j.there in
            let er : r ≡ a = omega arith in
            let eu : u ≡ b = omega arith in
            let x = (hf.at r s k hr hs hk).0 j.has in
            let y = (hg.at s u k hs hu hk).0 j.goes in
            second {u = s} (rw er at x) (rw eu at y)
    uses_of a b k ha hb hk (inr (R, w)) =
        let v = w.holds in
        let hs = v.s_low in
        let ht = v.parents.low in
        let q = v.parents.there in
        let es : v.s ≡ a = omega arith in
        let et : v.t ≡ b = omega arith in
        let d = v.down in
        let c = v.up in
        child_of {R = record { to = R; by = w.number }} {u = v.x} {v = v.y} (record { listed = w.of; has = v.parents.has }) (rw es at d)
        ((hg.at v.x v.y (base + R) v.x_low v.y_low (omega (arith, v.role_low))).0 v.along) (rw et at c)

    of_uses : (a b k : ℕ) → a < most_states → b < most_states → k < most_concepts → Uses K f g a b k
        → Joins delta sheet (pair a b) k ⊎ ThroughChildren delta.rows rows (pair a b) k
    of_uses a b k ha hb hk (first {u = u} x y) =
        let l = low_of rows a u k (mg a u k x) in
        let d = (hg.at a u k ha l.to hk).1 x in
        let e = (hf.at u b k l.to hb hk).1 y in
        inl (record {
          number = a;
          of = ha;
          holds = inl (record {
            number = u;
            of = delta.paired.has a u k ha l.to d;
            holds = record { number = b; of = sheet.paired.has u b k l.to hb e; holds = record { there = refl; has = d; goes = e } };
          });
        })
    of_uses a b k ha hb hk (second {u = u} x y) =
        let l = low_of rows u b k (mg u b k y) in
        let d = (hg.at u b k l.from hb hk).1 y in
        inl (record {
          number = u;
          of = l.from;
          holds = inr (record {
            number = a;
            of = ha;
            holds = record {
              number = b;
              of = delta.paired.has u b k l.from hb d;
              holds = record { there = refl; has = (hf.at a u k ha l.from hk).1 x; goes = d };
            };
          });
        })
    of_uses a b k ha hb hk (child_of {R = link} {u = x} {v = y} c d m p) =
        let l = low_of rows x y (base + link.to) (mg x y (base + link.to) m) in
        inr (
          link.to,
          record {
            number = link.by;
            of = c.listed;
            holds = record {
              s = a;
              x = x;
              y = y;
              t = b;
              s_low = ha;
              x_low = l.from;
              y_low = l.to;
              role_low = omega (arith, l.of);
              down = d;
              along = (hg.at x y (base + link.to) l.from l.to l.of).1 m;
              up = p;
              parents = record { low = hb; there = refl; has = c.has };
            };
          },
        )

    -- all candidates, from those before
    pub found_is : (old one two : List ConceptSet) → Gets (Joins delta sheet) old one → Gets (ThroughChildren delta.rows rows) one two
        → (a b k : ℕ) → a < most_states → b < most_states → k < most_concepts
        → At two (pair a b) k ↔ (At old (pair a b) k ⊎ Uses K f g a b k)
    found_is old one two j h a b k ha hb hk = (
      λ x. ⊎_elim (λ y. ⊎_elim (λ z. inl z) (λ z. inr (uses_of a b k ha hb hk (inl z))) ((j.at (pair a b) k).0 y))
          (λ y. inr (uses_of a b k ha hb hk (inr y))) ((h.at (pair a b) k).0 x),
      ⊎_elim (λ y. (h.at (pair a b) k).1 (inl ((j.at (pair a b) k).1 (inl y))))
          (λ y. ⊎_elim (λ z. (h.at (pair a b) k).1 (inl ((j.at (pair a b) k).1 (inr z)))) (λ z. (h.at (pair a b) k).1 (inr z))
          (of_uses a b k ha hb hk y)),
    )

  pub known : (n : ℕ) (sheet : List ConceptSet) → Holds (Mark K n) sheet → (s t B : ℕ) → Markable K s t B → Dec (Mark K n s t B)
  known n sheet h s t B m = side (ℕ_discrete (bit_at (get_or sheet (pair s t) (record { 0 = 0 })).0 B) 1)
    where
      l : Low rows s t B
      l = low_of rows s t B m

      side : Dec (At sheet (pair s t) B) → Dec (Mark K n s t B)
      side (yes p) = yes ((h.at s t B l.from l.to l.of).0 p)
      side (no p) = no (λ q. p ((h.at s t B l.from l.to l.of).1 q))

  -- ---- round 0

  module _ (sheet : Marks) (next : List ConceptSet) (f : FirstTurn rows sheet next) where
    pub first_holds : Holds (Mark K 0) sheet.rows
    first_holds = record {
      long = f.own.long ∙ f.bare.long;
      at = λ s t B hs ht hB. (
        λ x. ⊎_elim (λ y. absurd (f.bare.none (pair s t) B y)) (λ w. own s t B hs ht hB w.number w.of w.holds)
            ((f.own.at (pair s t) B).0 x),
        λ m. let e = m.1 in (f.own.at (pair s t) B).1
            (inr (record {
              number = s;
              of = hs;
              holds = record {
                there = rw (← e) refl;
                may = let w = may_of rows s t B m.0 in rw
                    (← e) at w;
              };
            })),
      );
    }
      where
        own : (s t B : ℕ) → s < most_states → t < most_states → B < most_concepts → (a : ℕ) → a < most_states → Own rows a (pair s t) B
            → Mark K 0 s t B
        own s t B hs ht hB a ha w =
            let e = w.there in
            let p : a ≡ s = omega arith in
            let q : a ≡ t = omega arith in
            let m = of_may rows a a B hB w.may in
            let e : s ≡ t = sym p ∙ q in
            let r : Markable K s s B = rw p at m in
            (rw (← e) r, e)

    tests_are : (s t B : ℕ) → s < most_states → t < most_states → At f.zero (pair s t) B ↔ At rows.tests (pair s t) B
    tests_are s t B hs ht = (
      λ x. ⊎_elim (λ y. absurd (f.none.none (pair s t) B y)) (λ w. test w.number w.of w.holds.number w.holds.of w.holds.holds)
          ((f.tests.at (pair s t) B).0 x),
      λ y. (f.tests.at (pair s t) B).1
          (inr (record { number = s; of = hs; holds = record { number = t; of = ht; holds = record { there = refl; has = y } } })),
    )
      where
        test : (a : ℕ) → a < most_states → (b : ℕ) → b < most_states → RowAt rows.tests a b (pair s t) B → At rows.tests (pair s t) B
        test a ha b hb w = let e = w.there in let h = w.has in rw (← e) at h

    pub first_next : Holds (Added K 0) next
    first_next = record {
      long = f.new.long;
      at = λ s t B hs ht hB. (
        λ x.
            let w = (f.new.at s t B hs ht).0 x in
            let m = of_may rows s t B hB w.may in
            record {
              then = (
                m,
                ⊎_elim (λ e. tested ((tests_are s t B hs ht).0 e)) (λ u. uses_round K (Mark K 0) (Mark K 0) (λ a b k y. y) s t B u)
                    ((is s t B hs ht hB).0 w.candidate),
              );
              before = λ y. w.absent ((first_holds.at s t B hs ht hB).1 y);
            },
        λ a.
            let m = may_of rows s t B (mark-markable K 1 s t B a.then) in
            let c : At f.zero (pair s t) B ⊎ Uses K (Mark K 0) (Mark K 0) s t B = ⊎_elim (λ y. absurd (a.before y))
            (λ y. ⊎_elim (λ e. inl ((tests_are s t B hs ht).1 e)) (λ u. inr u) y) (first_round K s t B a.then) in
            (f.new.at s t B hs ht).1
            (record { candidate = (is s t B hs ht hB).1 c; absent = λ y. a.before ((first_holds.at s t B hs ht hB).0 y); may = m }),
      );
    }
      where
        same : Holds (Mark K 0) f.first.rows
        same = let e = f.same in rw e first_holds

        is : (s t B : ℕ) → s < most_states → t < most_states → B < most_concepts
            → At f.two (pair s t) B ↔ (At f.zero (pair s t) B ⊎ Uses K (Mark K 0) (Mark K 0) s t B)
        is = found_is (Mark K 0) (Mark K 0) sheet f.first first_holds same (mark-markable K 0)
            (mark-markable K 0) f.zero f.one f.two f.joins f.through

  -- ---- one more round

  module _ (n : ℕ) (sheet : List ConceptSet) (delta : Marks) (hs₀ : Holds (Mark K n) sheet) (hn : Holds (Added K n) delta.rows)
      (more : Marks) (next : List ConceptSet)
      (turn : IsTurn rows sheet delta more next) where
    -- THEOREM: a turn leads from round n to round n + 1
    pub turn_sheet : Holds (Mark K (suc n)) more.rows
    turn_sheet = record {
      long = turn.puts.long ∙ hs₀.long;
      at = λ s t B hs ht hB. (
        λ x. ⊎_elim (λ y. marks_stay K n s t B ((hs₀.at s t B hs ht hB).0 y))
            (λ w. new s t B hs ht hB w.number w.of w.holds.number w.holds.of w.holds.holds) ((turn.puts.at (pair s t) B).0 x),
        λ m. (turn.puts.at (pair s t) B).1
            (⊎_elim (λ y. inl ((hs₀.at s t B hs ht hB).1 y)) (λ y. inr (put s t B hs ht ((hn.at s t B hs ht hB).1 y)))
            (split K n (known n sheet hs₀) s t B m)),
      );
    }
      where
        put : (s t B : ℕ) → s < most_states → t < most_states → At delta.rows (pair s t) B → AllRows delta (pair s t) B
        put s t B hs ht x = record {
          number = s;
          of = hs;
          holds = record {
            number = t;
            of = delta.paired.has s t B hs ht x;
            holds = record { there = refl; has = x };
          };
        }

        new : (s t B : ℕ) → s < most_states → t < most_states → B < most_concepts → (a : ℕ) → a < most_states → (b : ℕ)
            → Relates delta.pairs a b
            → RowAt delta.rows a b (pair s t) B → Mark K (suc n) s t B
        new s t B hs ht hB a ha b r w =
            let q = w.there in
            let x = w.has in
            ((hn.at s t B hs ht hB).0 (rw (← q) at x)).then

    pub turn_next : Holds (Added K (suc n)) next
    turn_next = record {
      long = turn.new.long;
      at = λ s t B hs ht hB. (
        λ x.
            let w = (turn.new.at s t B hs ht).0 x in
            let m = of_may rows s t B hB w.may in
            record {
              then = (
                m,
                ⊎_elim (λ e. absurd (turn.none.none (pair s t) B e))
                    (λ u. uses_round K (Mark K (suc n)) (Added K n) (λ a b k y. y.then) s t B u) ((is s t B hs ht hB).0 w.candidate),
              );
              before = λ y. w.absent ((turn_sheet.at s t B hs ht hB).1 y);
            },
        λ a. (turn.new.at s t B hs ht).1 (record {
          candidate = (is s t B hs ht hB).1
              (⊎_elim (λ y. absurd (a.before y)) (λ y. inr y) (adds_by_new K n (known n sheet hs₀) s t B a.then));
          absent = λ y. a.before ((turn_sheet.at s t B hs ht hB).0 y);
          may = may_of rows s t B (mark-markable K (suc (suc n)) s t B a.then);
        }),
      );
    }
      where
        is : (s t B : ℕ) → s < most_states → t < most_states → B < most_concepts
            → At turn.two (pair s t) B ↔ (At turn.blank (pair s t) B ⊎ Uses K (Mark K (suc n)) (Added K n) s t B)
        is =
            found_is (Mark K (suc n)) (Added K n) more delta turn_sheet hn (mark-markable K (suc n))
            (λ s t B y. mark-markable K (suc n) s t B y.then) turn.blank turn.one turn.two turn.joins
            turn.through

  pub mark_low : (n s t B : ℕ) → Mark K n s t B → (s < most_states) × (t < most_states) × (B < most_concepts)
  mark_low n s t B m = let l = low_of rows s t B (mark-markable K n s t B m) in (l.from, l.to, l.of)
