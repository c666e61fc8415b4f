-- The exclusions of concepts as sets, and what a row breaks by them.
use Rattle.std.specs.Prelude.{ℕ, ◌≡◌, ◌^◌, ◌+◌, ◌<◌, ◌↔◌, IsTrue, Bool, List, get_or, replicate}
use Rattle.std.proofs.Common.{arith, inl, inr, ⊎_elim}
use Rattle.std.proofs.Math.Decide.{ℕ_discrete, dec_lt}
use Rattle.std.proofs.lemmas.Nat.Bits.{bit_at_above}
use Rattle.laws.specs.Truth.{test-same}
use Rattle.kinds.specs.Kinds.{base, flip}
use Rattle.sets.specs.Bits.{concept_width, role_width, has, Has, IsEmpty, IsIntersection, IsUnion, TakesFirst}
use Rattle.sets.specs.Rows.{Adds, concept_marks, no_concepts}
use Rattle.sets.specs.declared.concepts.ConceptSet.{ConceptSet}
use Rattle.sets.proofs.RowLaws.{has_fact, blank_marks}
use Rattle.orders.specs.Marks.{Listed}
use Rattle.elements.specs.Concepts.{Gathers}
use Rattle.clash.specs.Clashes.{BothSides, Marked, HaveBothSides, SomeIn}
use Rattle.clash.specs.Conflicts.{AreConflicts, AreAmong, Covers, IsPart, MeetsRow, UnnamedAmong}

pub covers_none : (from : ℕ → ℕ → Bool) (among lefts : ℕ) → Covers from 0 among lefts
covers_none from among lefts = record { at = λ i j l. absurd (omega arith) }

pub covers_more : (rows : List ConceptSet) (i among old new : ℕ) → Covers (concept_marks rows) i among old
    → ((k : ℕ) → Has old k → Has new k)
    → ((j : ℕ) → Has (get_or rows i no_concepts).0 j → Has among j → Has new i) → Covers (concept_marks rows) (i + 1) among new
covers_more rows i among old new c keeps own = record { at = λ k j l p q. side k j l p q (ℕ_discrete k i) }
  where
    side : (k j : ℕ) → k < i + 1 → IsTrue (concept_marks rows k j) → Has among j → Dec (k ≡ i) → Has new k
    side k j l p q (yes e) = rw e (own j ((has_fact (get_or rows i no_concepts).0 j).0 (rw e at p)) q)
    side k j l p q (no ne) = keeps k (c.at k j (omega arith) p q)

pub are_conflicts : (table : List ℕ) (among : ℕ) (from : ℕ → ℕ → Bool) (lefts : ℕ)
    → Adds concept_width concept_width (concept_marks (replicate concept_width no_concepts)) (Listed table) from
    → Covers from concept_width among lefts → AreConflicts table among from lefts
are_conflicts table among from lefts a c =
    record {
      at = λ i j hi hj. test-same (a.at i j hi hj) (⊎_elim (λ p. absurd (blank_marks concept_width i j hi p)) (λ p. p)) (λ p. inr p);
      covers = λ i j hi p q. c.at i j hi p q;
    }

-- ---- the concepts of all elements

-- the loop over the generating roles: of the set n those in rest are still to come, and the set has what an unnamed element has that ends by
-- another one
pub record Taking (order : ℕ → ℕ → Bool) (n rest among : ℕ) : Type 0 where
  pub taken : (R k : ℕ) → Has n R → (Has rest R → ⊥) → IsTrue (order (base + flip R) k) → Has among k

pub taking_start : (order : ℕ → ℕ → Bool) (n among : ℕ) → Taking order n n among
taking_start order n among = record { taken = λ R k p q. absurd (q p) }

pub taking_more : (rows : List ConceptSet) (n m R r old new : ℕ) (row : ConceptSet) → Taking (concept_marks rows) n m old
    → TakesFirst role_width m R r → row ≡ get_or rows (base + flip R) no_concepts → IsUnion old row.0 new
    → Taking (concept_marks rows) n r new
taking_more rows n m R r old new row g t e u = record { taken = λ Q k p q x. side Q k p q x (ℕ_discrete Q R) }
  where
    side : (Q k : ℕ) → Has n Q → (Has r Q → ⊥) → IsTrue (concept_marks rows (base + flip Q) k) → Dec (Q ≡ R) → Has new k
    side Q k p q x (yes f) =
        (u.member k).1 (inr (rw e ((has_fact (get_or rows (base + flip R) no_concepts).0 k).0 (rw f at x))))
    side Q k p q x (no ne) = (u.member k).1 (inl (g.taken Q k p (λ y. q ((t.rest.member Q).1 (y, ne))) x))

pub taking_end : (order : ℕ → ℕ → Bool) (n rest among : ℕ) → Taking order n rest among → IsEmpty rest → UnnamedAmong order n among
taking_end order n rest among g e = record { at = λ R k p x. g.taken R k p (λ y. e R y) x }

pub among_individuals : (rows : ℕ → ℕ → Bool) (h n : ℕ) → Gathers h rows n → AreAmong h rows n
among_individuals rows h n g = record { at = λ i k l p. (g.member k).1 (i, l, p) }

pub among_more : (rows : ℕ → ℕ → Bool) (h old row new : ℕ) → AreAmong h rows old → IsUnion old row new → AreAmong h rows new
among_more rows h old row new a u = record { at = λ i k l p. (u.member k).1 (inl (a.at i k l p)) }

-- ---- what a row breaks

below : (n i : ℕ) → n < 2 ^ 128 → Has n i → Dec (i < concept_width) → i < concept_width
below n i h p (yes l) = l
below n i h p (no g) = let z = bit_at_above n concept_width i h (omega arith) in absurd (omega arith)

-- a row breaks an exclusion where the row of a member that is a left side meets it
pub row_broken : (table : List ℕ) (rows : List ConceptSet) (among lefts row looked : ℕ) (b : Bool)
    → AreConflicts table among (concept_marks rows) lefts → IsPart row among → IsIntersection row lefts looked
    → row < 2 ^ 128 → IsTrue b ↔ SomeIn concept_width (MeetsRow rows row) looked → IsTrue b ↔ HaveBothSides concept_width table (has row)
row_broken table rows among lefts row looked b a part n small e = test-same e to (λ x. from x.sides)
  where
    to : SomeIn concept_width (MeetsRow rows row) looked → HaveBothSides concept_width table (has row)
    to x =
        let k = x.one in
        let j = x.has.0 in
        let l = below row j small x.has.2 (dec_lt j concept_width) in
        record {
          sides = record {
            left = k;
            right = j;
            left_row = x.within;
            right_row = l;
            listed = (a.at k j x.within l).0 ((has_fact (get_or rows k no_concepts).0 j).1 x.has.1);
            has_left = (has_fact row k).1 ((n.member k).0 x.member).0;
            has_right = (has_fact row j).1 x.has.2;
          };
        }

    from : BothSides concept_width table (Marked (has row)) → SomeIn concept_width (MeetsRow rows row) looked
    from x =
        let p = (a.at x.left x.right x.left_row x.right_row).1 x.listed in
        let r = (has_fact row x.right).0 x.has_right in
        record {
          one = x.left;
          within = x.left_row;
          member = (n.member x.left).1 ((has_fact row x.left).0 x.has_left, a.covers x.left x.right x.left_row p (part x.right r));
          has = (x.right, (has_fact (get_or rows x.left no_concepts).0 x.right).0 p, r);
        }
