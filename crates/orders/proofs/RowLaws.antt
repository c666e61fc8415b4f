-- Rows of sets as relations: a member put into a row, a row joined with another, one step of closing, and packing.
use Rattle.std.specs.Prelude.{ℕ, ◌≡◌, refl, ◌+◌, ◌-◌, ◌≤◌, ◌<◌, ◌↔◌, ◌⊎◌, ◌||◌, ◌&&◌, IsTrue, List, [], Bool, true, false, length}
use Rattle.std.specs.Prelude.{get_or, set, replicate}
use Rattle.std.proofs.Common.{sym, ◌∙◌, inl, inr, ⊎_elim, arith, rules, below_more, length-set, get_or-set_same, get_or-set_other}
use Rattle.std.proofs.Math.Decide.{ℕ_discrete}
use Rattle.std.proofs.lemmas.Nat.Bits.{bit_at-zero}
use Rattle.std.proofs.lemmas.List.{get_or-replicate, length-replicate}
use Rattle.kinds.specs.declared.Concept.{Concept}
use Rattle.kinds.specs.Kinds.{number_of, concept_of, number-concept, base}
use Rattle.laws.specs.Warshall.{Stepped, Done, none_done, step-done, Closes, closes}
use Rattle.laws.specs.Fill.{Filling, one_more, all_done}
use Rattle.laws.specs.Marks.{mark}
use Rattle.laws.specs.Truth.{test-same}
use Rattle.sets.specs.Bits.{has, Has, Inserts, InsertsIf, IsUnion, IsRaised, concept_width, role_width}
use Rattle.sets.specs.Rows.{Adds, concept_marks, role_marks, no_concepts, no_roles}
use Rattle.sets.specs.declared.concepts.ConceptSet.{ConceptSet}
use Rattle.sets.specs.declared.roles.RoleSet.{RoleSet}
use Rattle.orders.specs.Rows.{IsRoleOrder}
use Rattle.orders.specs.Marks.{Pair, Diagonal, Shows, Wide, Packs, PacksRows}
use Rattle.sets.proofs.RowLaws.{has_fact}

-- the concept that is read from a number has that number
pub read_number : (C : Concept) (n : ℕ) → C ≡ concept_of n → number_of C ≡ n
read_number C n e = rw e (number-concept n)

abbrev none : ConceptSet
none = no_concepts

-- ---- what a change adds

-- a member put into row a
pub stored : (rows : List ConceptSet) (a b : ℕ) (x : ConceptSet) → a < length rows → b < concept_width
    → Inserts concept_width (get_or rows a none).0 b x.0
    → Adds concept_width concept_width (concept_marks rows) (Pair a b) (concept_marks (set rows a x))
stored rows a b x h l s = record { at = λ i j hi hj. by i j (ℕ_discrete i a) }
  where
    by : (i j : ℕ) → Dec (i ≡ a) → IsTrue (concept_marks (set rows a x) i j) ↔ ((concept_marks rows i j ≡ true) ⊎ Pair a b i j)
    by i j (yes e) =
        rw (e, get_or-set_same rows a x none h)
        (let u = s.member j in
        let v = has_fact (get_or rows a none).0 j in
        let y = has_fact x.0 j in (
          λ p. ⊎_elim (λ q. inl (v.1 q)) (λ q. inr (refl, q.0)) (u.0 (y.0 p)),
          λ p. y.1
              (u.1 (⊎_elim (λ q. inl (v.0 q)) (λ q. inr (q.1, l)) p)),
        ))
    by i j (no ne) = rw (get_or-set_other rows a i x none ne) ((λ p. inl p, ⊎_elim (λ p. p) (λ q. absurd (ne q.0))))

-- ---- a step of closing

-- row i after the step through k
pub record Row (m : List ConceptSet) (k i : ℕ) (x : ConceptSet) : Type 0 where
  pub at : (j : ℕ) → has x.0 j ≡ (concept_marks m i j || (concept_marks m i k && concept_marks m k j))

-- the rows below i have gone through k, and those from i on are as they were
abbrev pub SteppingRows : List ConceptSet → ℕ → List ConceptSet → ℕ → Type 0
SteppingRows m k now i = Filling (Row m k) none concept_width m now i

or-false : (b : Bool) → (b || false) ≡ b
or-false true = refl
or-false false = refl

united : (a b r j : ℕ) → IsUnion a b r → has r j ≡ (has a j || has b j)
united a b r j u = by (has r j) (has a j) (has b j) (has_fact r j) (has_fact a j) (has_fact b j) (u.member j)
  where
    by : (x y z : Bool) → IsTrue x ↔ Has r j → IsTrue y ↔ Has a j → IsTrue z ↔ Has b j → Has r j ↔ (Has a j ⊎ Has b j) → x ≡ (y || z)
    by x true z f g h u = f.1 (u.1 (inl (g.0 refl)))
    by x false true f g h u = f.1 (u.1 (inr (h.0 refl)))
    by true false false f g h u = ⊎_elim (λ q. sym (g.1 q)) (λ q. sym (h.1 q)) (u.0 (f.0 refl))
    by false false false f g h u = refl

module _ (m now : List ConceptSet) (k i : ℕ) (s : SteppingRows m k now i) (h : i < concept_width) where
  -- where the row marks k, the row of k is put into it
  pub joined : (x : ConceptSet) → has (get_or now i none).0 k ≡ true → IsUnion (get_or now i none).0 (get_or m k none).0 x.0
      → SteppingRows m k (set now i x) (i + 1)
  joined x t u =
      one_more (Row m k) none concept_width m now i x s h (λ q. record {
        at = λ j. united (get_or now i none).0 (get_or m k none).0 x.0 j u ∙ rw q (by (concept_marks m i k) j (let e = rw q at t in e));
      })
    where
      by : (b : Bool) (j : ℕ) → b ≡ true
          → (concept_marks m i j || concept_marks m k j) ≡ (concept_marks m i j || (b && concept_marks m k j))
      by true j e = refl
      by false j e = cc

  -- and where it does not, it stays
  pub left : has (get_or now i none).0 k ≡ false → SteppingRows m k now (i + 1)
  left t =
      record {
        within = omega arith;
        long = s.long;
        done = below_more (λ j. Row m k j (get_or now j none)) i (λ j l. s.done j l)
            (let q = s.rest i (omega arith) in rw q (record { at = λ j. by (concept_marks m i k) j (let e = rw q at t in e) }));
        rest = λ j l. s.rest j (omega arith);
      }
    where
      by : (b : Bool) (j : ℕ) → b ≡ false → concept_marks m i j ≡ (concept_marks m i j || (b && concept_marks m k j))
      by true j e = cc
      by false j e = sym (or-false (concept_marks m i j))

pub gone : (m now : List ConceptSet) (k i : ℕ) → SteppingRows m k now i → concept_width ≤ i
    → Stepped concept_width (concept_marks m) k (concept_marks now)
gone m now k i s h = λ a b ha hb. (all_done (Row m k) none concept_width m now i s h a ha).at b

-- ---- closing

pub closing_start : (m₀ m : ℕ → ℕ → Bool) → Adds concept_width concept_width m₀ Diagonal m → Done concept_width m₀ m 0
closing_start m₀ m a =
    none_done concept_width m₀ m (λ i j hi hj. (a.at i j hi hj).0) (λ i j hi hj p. (a.at i j hi hj).1 (inl p))
    (λ i hi. (a.at i i hi hi).1 (inr refl))

pub closing_more : (m₀ m r : ℕ → ℕ → Bool) (k : ℕ) → Done concept_width m₀ m k → k < concept_width → Stepped concept_width m k r
    → Done concept_width m₀ r (k + 1)
closing_more m₀ m r k d h s = step-done concept_width m₀ m r k h d s

pub closing_end : (m₀ m : ℕ → ℕ → Bool) (k : ℕ) → Done concept_width m₀ m k → concept_width ≤ k → k ≤ concept_width
    → Closes concept_width m₀ m
closing_end m₀ m k d l h = closes concept_width m₀ m k l h d

-- ---- the roles' marks among those of the concepts

-- the rows below i are widened
pub record Widened (roles : List RoleSet) (out : List ConceptSet) (i : ℕ) : Type 0 where
  pub long : length out ≡ concept_width
  pub at : (a j : ℕ) → a < concept_width → j < concept_width → IsTrue (concept_marks out a j) ↔ ((a < i) × Wide (role_marks roles) a j)

module _ (roles : List RoleSet) where
  pub widened_start : Widened roles (replicate concept_width none) base
  widened_start =
      record {
        long = length-replicate concept_width none;
        at = λ a j ha hj.
            rw (get_or-replicate concept_width a none none ha)
            (let z = bit_at-zero j in
            (λ p. let q = (has_fact 0 j).0 p in absurd (omega arith), λ p. let l = p.0 in let m = p.1.0 in absurd (omega arith)));
      }

  pub widened_more : (out : List ConceptSet) (i : ℕ) (x : ConceptSet) → Widened roles out i → base ≤ i → i < concept_width
      → IsRaised base (get_or roles (i - base) (no_roles)).0 x.0 → Widened roles (set out i x) (i + 1)
  widened_more out i x w l h r = record { long = length-set out i x ∙ w.long; at = λ a j ha hj. by a j ha hj (ℕ_discrete a i) }
    where
      row : ℕ
      row = (get_or roles (i - base) (no_roles)).0

      by : (a j : ℕ) → a < concept_width → j < concept_width → Dec (a ≡ i)
          → IsTrue (concept_marks (set out i x) a j) ↔ ((a < i + 1) × Wide (role_marks roles) a j)
      by a j ha hj (yes e) =
          rw (e, get_or-set_same out i x none (let g = w.long in omega arith))
          (let m = r.member j in
          let y = has_fact x.0 j in
          let z = has_fact row (j - base) in
          (λ p. let q = m.0 (y.0 p) in (omega arith, (l, q.0, z.1 q.1)), λ p. y.1 (m.1 (p.1.1, z.0 p.1.2))))
      by a j ha hj (no ne) =
          rw (get_or-set_other out i a x none ne)
          (test-same (w.at a j ha hj) (λ p. (let k = p.0 in omega arith, p.1)) (λ p. (let k = p.0 in omega arith, p.1)))

  pub widened_end : (out : List ConceptSet) (i : ℕ) → Widened roles out i → concept_width ≤ i
      → Shows concept_width (concept_marks out) (Wide (role_marks roles))
  widened_end out i w h = record { at = λ a j ha hj. test-same (w.at a j ha hj) (λ p. p.1) (λ p. (omega arith, p)) }

-- ---- packing

-- the marks below i are packed
pub record Packing (row : List Bool) (n i : ℕ) : Type 0 where
  pub at : (j : ℕ) → IsTrue (has n j) ↔ ((j < i) × (get_or row j false ≡ true))

module _ (row : List Bool) where
  pub packing_start : Packing row 0 0
  packing_start = record {
    at = λ j. let z = bit_at-zero j in
        (λ p. let q = (has_fact 0 j).0 p in absurd (omega arith), λ p. let l = p.0 in absurd (omega arith));
  }

  pub packing_more : (n i r : ℕ) (on : Bool) → Packing row n i → on ≡ get_or row i false → i < role_width → InsertsIf role_width n i on r
      → Packing row r (i + 1)
  packing_more n i r on w t hi s =
      record {
        at = λ j.
            let u = s.member j in
            let o = w.at j in (
              λ p.
                  ⊎_elim (λ q. let k = o.0 ((has_fact n j).1 q) in (let l = k.0 in omega arith, k.1))
                  (λ e. (let f = e.0 in omega arith, rw e.0 (sym t ∙ e.2))) (u.0 ((has_fact r j).0 p)),
              λ p. (has_fact r j).1 (u.1 (side j p.0 p.1 (ℕ_discrete j i))),
            );
      }
    where
      side : (j : ℕ) → j < i + 1 → get_or row j false ≡ true → Dec (j ≡ i) → Has n j ⊎ ((j ≡ i) × (i < role_width) × (on ≡ true))
      side j l p (yes e) = inr (e, hi, t ∙ (let q = rw e at p in q))
      side j l p (no ne) = inl ((has_fact n j).0 ((w.at j).1 (omega arith, p)))

  pub packing_end : (n i : ℕ) → Packing row n i → role_width ≤ i → Packs row n
  packing_end n i w h = record { at = λ j hj. same (has n j) (get_or row j false) (w.at j) (omega arith) }
    where
      same : (x y : Bool) {j : ℕ} → IsTrue x ↔ ((j < i) × (y ≡ true)) → j < i → x ≡ y
      same true true e l = refl
      same true false e l = sym ((e.0 refl).1)
      same false true e l = e.1 (l, refl)
      same false false e l = refl

-- the rows below i are packed
pub record PackedBelow (m : List (List Bool)) (out : List RoleSet) (i : ℕ) : Type 0 where
  pub long : length out ≡ role_width
  pub at : (a j : ℕ) → a < i → j < role_width → role_marks out a j ≡ mark m a j

module _ (m : List (List Bool)) where
  pub packed_start : PackedBelow m (replicate role_width (no_roles)) 0
  packed_start = record { long = length-replicate {A = RoleSet} role_width (no_roles); at = λ a j h. absurd (omega arith) }

  pub packed_more : (out : List RoleSet) (i : ℕ) (x : RoleSet) → PackedBelow m out i → i < role_width → Packs (get_or m i []) x.0
      → PackedBelow m (set out i x) (i + 1)
  packed_more out i x w h p = record { long = length-set out i x ∙ w.long; at = λ a j ha hj. by a j ha hj (ℕ_discrete a i) }
    where
      by : (a j : ℕ) → a < i + 1 → j < role_width → Dec (a ≡ i) → role_marks (set out i x) a j ≡ mark m a j
      by a j ha hj (yes e) = rw (e, get_or-set_same out i x (no_roles) (let g = w.long in omega arith)) (p.at j hj)
      by a j ha hj (no ne) = rw (get_or-set_other out i a x (no_roles) ne) (w.at a j (omega arith) hj)

  pub packed_end : (out : List RoleSet) (i : ℕ) → PackedBelow m out i → role_width ≤ i → PacksRows m out
  packed_end out i w h = record { at = λ a j ha hj. w.at a j (omega arith) hj }

pub packed_order : (rules : List ℕ) (m : List (List Bool)) (out : List RoleSet) → IsRoleOrder rules (mark m) → PacksRows m out
    → IsRoleOrder rules (role_marks out)
packed_order rules m out o p = record { at = λ i j hi hj. rw (p.at i j hi hj) (o.at i j hi hj) }
