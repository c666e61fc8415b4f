-- Which concepts are apart: rows joined, and what the exclusions of one left side put into the rows.
use Rattle.std.specs.Prelude.{ℕ, ◌≡◌, ◌/◌, ◌<◌, ◌⊎◌, IsTrue, Bool, List, length, get_or, replicate}
use Rattle.std.proofs.Common.{sym, ◌∙◌, arith, inl, inr, ⊎_elim}
use Rattle.std.proofs.Math.Decide.{ℕ_discrete}
use Rattle.std.proofs.lemmas.Nat.Bits.{bit_at-zero}
use Rattle.laws.specs.Gains.{Either}
use Rattle.meaning.specs.Lent.{rule_width}
use Rattle.sets.specs.Bits.{concept_width, Has, IsEmpty, IsUnion, TakesFirst}
use Rattle.sets.specs.Rows.{Adds, concept_marks, no_concepts}
use Rattle.sets.specs.declared.concepts.ConceptSet.{ConceptSet}
use Rattle.sets.proofs.RowLaws.{has_fact, blank_marks, adds_same}
use Rattle.orders.specs.Rows.{IsTransposed}
use Rattle.orders.specs.Marks.{Block, Listed, Shows}
use Rattle.sift.specs.Exclusions.{SomeRow, Joins, BesideRow, BesideRows, IsApart, AreApart}

-- ---- rows joined

-- r has what the rows of those members of n have that are past
pub record Joining (rows : ℕ → ℕ → Bool) (n rest r : ℕ) : Type 0 where
  pub part : (i : ℕ) → Has rest i → Has n i
  pub sound : (j : ℕ) → Has r j → SomeRow rows n j
  pub whole : (i j : ℕ) → i < concept_width → Has n i → (Has rest i → ⊥) → IsTrue (rows i j) → Has r j

module _ (rows : List ConceptSet) (n : ℕ) where
  pub joining_start : Joining (concept_marks rows) n n 0
  joining_start = record {
    part = λ i p. p;
    sound = λ j p. let z = bit_at-zero j in absurd (omega arith);
    whole = λ i j l p q x. absurd (q p);
  }

  pub joining_more : (m k r out new : ℕ) → Joining (concept_marks rows) n m out → TakesFirst concept_width m k r
      → IsUnion out (get_or rows k no_concepts).0 new → Joining (concept_marks rows) n r new
  joining_more m k r out new g t u = record {
    part = λ i p. g.part i ((t.rest.member i).0 p).0;
    sound = λ j p.
        ⊎_elim (λ q. g.sound j q)
        (λ q. record {
          one = k;
          within = t.within;
          member = g.part k t.member;
          has = (has_fact (get_or rows k no_concepts).0 j).1 q;
        }) ((u.member j).0 p);
    whole = λ i j l p q x. (u.member j).1 (side i j l p q x (ℕ_discrete i k));
  }
    where
      side : (i j : ℕ) → i < concept_width → Has n i → (Has r i → ⊥) → IsTrue (concept_marks rows i j) → Dec (i ≡ k)
          → Has out j ⊎ Has (get_or rows k no_concepts).0 j
      side i j l p q x (yes e) = inr ((has_fact (get_or rows k no_concepts).0 j).0 (rw e at x))
      side i j l p q x (no ne) = inl (g.whole i j l p (λ y. q ((t.rest.member i).1 (y, ne))) x)

  pub joining_end : (m out : ℕ) → Joining (concept_marks rows) n m out → IsEmpty m → Joins (concept_marks rows) n out
  joining_end m out g e = record { member = λ j. (g.sound j, λ w. g.whole w.one j w.within w.member (e w.one) w.has) }

-- ---- the exclusions of one left side

module _ (below : List ConceptSet) (k rights : ℕ) (m r : ℕ → ℕ → Bool) where
  row : ℕ
  row = (get_or below k no_concepts).0

  -- the row of the left side, and the rows of the right sides together
  pub row_put : (right : ℕ) → Joins (concept_marks below) rights right
      → Adds concept_width concept_width m
      (Either (Block (get_or below k no_concepts).0 (Has right)) (Block right (Has (get_or below k no_concepts).0))) r
      → Adds concept_width concept_width m (BesideRow below k rights) r
  unfolding row
  row_put right s a =
      adds_same concept_width concept_width m (Either (Block row (Has right)) (Block right (Has row))) (BesideRow below k rights) r a
      (λ i j hi hj. ⊎_elim (λ p. inl ((has_fact row i).1 p.0, (s.member j).0 p.1)) (λ p. inr ((s.member i).0 p.0, (has_fact row j).1 p.1)))
      (λ i j hi hj. ⊎_elim (λ p. inl ((has_fact row i).0 p.0, (s.member j).1 p.1)) (λ p. inr ((s.member i).1 p.0, (has_fact row j).0 p.1)))

-- with no right side nothing is put
pub none_put : (below : List ConceptSet) (k rights : ℕ) (m : ℕ → ℕ → Bool) → IsEmpty rights
    → Adds concept_width concept_width m (BesideRow below k rights) m
none_put below k rights m e = record {
  at = λ i j hi hj. (λ p. inl p, ⊎_elim (λ p. p) (⊎_elim (λ q. absurd (e q.1.one q.1.member)) (λ q. absurd (e q.0.one q.0.member))));
}

-- ---- all of them

abbrev blank : ℕ → ℕ → Bool
blank = concept_marks (replicate concept_width no_concepts)

-- the left sides below n are put in
abbrev pub RowsPut : List ConceptSet → List ConceptSet → ℕ → List ConceptSet → Type 0
RowsPut below excluded n apart = Adds concept_width concept_width blank (BesideRows below excluded n) (concept_marks apart)

pub rows_end : (below excluded : List ConceptSet) (n : ℕ) (apart : List ConceptSet) → RowsPut below excluded n apart → n ≡ concept_width
    → Shows concept_width (concept_marks apart) (BesideRows below excluded concept_width)
rows_end below excluded n apart a e =
    let s : Shows concept_width (concept_marks apart) (BesideRows below excluded n) = record {
      at = λ i j hi hj. (
        λ p. ⊎_elim (λ q. absurd (blank_marks concept_width i j hi q)) (λ q. q) ((a.at i j hi hj).0 p),
        λ q. (a.at i j hi hj).1 (inr q),
      );
    } in
    rw e at s

module _ (table : List ℕ) (order : ℕ → ℕ → Bool) where
  pub apart_none : length table / rule_width ≡ 0 → AreApart table order (concept_marks (replicate concept_width no_concepts))
  apart_none e = record {
    at = λ i j hi hj. (
      λ p. absurd (blank_marks concept_width i j hi p),
      λ w. let l = w.listed.1 in absurd (omega arith),
    );
  }

  pub apart_end : (below excluded apart : List ConceptSet)
      → Adds concept_width concept_width (concept_marks (replicate concept_width no_concepts)) (Listed table) (concept_marks excluded)
      → IsTransposed concept_width order (concept_marks below)
      → Shows concept_width (concept_marks apart) (BesideRows below excluded concept_width) → AreApart table order (concept_marks apart)
  apart_end below excluded apart x t a = record { at = λ i j hi hj. (to i j hi hj, from i j hi hj) }
    where
      listed : (k l : ℕ) → k < concept_width → l < concept_width → Has (get_or excluded k no_concepts).0 l → Listed table k l
      listed k l hk hl p =
          ⊎_elim (λ q. absurd (blank_marks concept_width k l hk q)) (λ q. q)
          ((x.at k l hk hl).0 ((has_fact (get_or excluded k no_concepts).0 l).1 p))

      marked : (k l : ℕ) → k < concept_width → l < concept_width → Listed table k l → Has (get_or excluded k no_concepts).0 l
      marked k l hk hl p = (has_fact (get_or excluded k no_concepts).0 l).0 ((x.at k l hk hl).1 (inr p))

      up : (k i : ℕ) → k < concept_width → i < concept_width → IsTrue (concept_marks below k i) → IsTrue (order i k)
      up k i hk hi p = sym (t.at k i hk hi) ∙ p

      down : (k i : ℕ) → k < concept_width → i < concept_width → IsTrue (order i k) → IsTrue (concept_marks below k i)
      down k i hk hi p = t.at k i hk hi ∙ p

      one : (k i j : ℕ) → k < concept_width → i < concept_width → j < concept_width
          → BesideRow below k (get_or excluded k no_concepts).0 i j → IsApart table order i j
      one k i j hk hi hj (inl (p, s)) = record {
        left = k;
        right = s.one;
        left_row = hk;
        right_row = s.within;
        listed = listed k s.one hk s.within s.member;
        above = inl (up k i hk hi p, up s.one j s.within hj s.has);
      }
      one k i j hk hi hj (inr (s, p)) = record {
        left = k;
        right = s.one;
        left_row = hk;
        right_row = s.within;
        listed = listed k s.one hk s.within s.member;
        above = inr (up s.one i s.within hi s.has, up k j hk hj p);
      }

      to : (i j : ℕ) → i < concept_width → j < concept_width → IsTrue (concept_marks apart i j) → IsApart table order i j
      to i j hi hj p = let w = (a.at i j hi hj).0 p in one w.0 i j w.1 hi hj w.2

      from : (i j : ℕ) → i < concept_width → j < concept_width → IsApart table order i j → IsTrue (concept_marks apart i j)
      from i j hi hj w =
          let l = w.left_row in
          let r = w.right_row in
          let rights : ℕ = (get_or excluded w.left no_concepts).0 in
          let beside : (b : ℕ) → b < concept_width → IsTrue (order b w.right) → SomeRow (concept_marks below) rights b =
          (λ b hb p. record { one = w.right; within = r; member = marked w.left w.right l r w.listed; has = down w.right b r hb p }) in
          (a.at i j hi hj).1 (
            w.left,
            l,
            ⊎_elim (λ p. inl (down w.left i l hi p.0, beside j hj p.1)) (λ p. inr (beside i hi p.0, down w.left j l hj p.1)) w.above,
          )
