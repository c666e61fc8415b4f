-- Transposing a relation row after row: what is put member by member, and what is put at once for all holders.
use Rattle.std.specs.Prelude.{ℕ, ◌≡◌, refl, ◌+◌, ◌≤◌, ◌<◌, ◌↔◌, ◌⊎◌, IsTrue, Bool, true, false, List, length, get_or, set, replicate}
use Rattle.std.proofs.Common.{inl, inr, ⊎_elim, arith, get_or-set_same, get_or-set_other}
use Rattle.std.proofs.Math.Decide.{ℕ_discrete}
use Rattle.std.proofs.lemmas.Bool.{false≢true}
use Rattle.std.proofs.lemmas.List.{length-replicate}
use Rattle.laws.specs.Truth.{test-once, test-same}
use Rattle.sets.specs.Bits.{has, Has, Inserts, IsEmpty, IsIntersection, IsMinus, IsOnly, IsUnion, TakesFirst, concept_width}
use Rattle.sets.specs.Rows.{Adds, concept_marks, no_concepts}
use Rattle.sets.specs.declared.concepts.ConceptSet.{ConceptSet}
use Rattle.sets.proofs.RowLaws.{adds_same, has_fact, has_none, blank_marks}
use Rattle.orders.specs.Rows.{IsTransposed}
use Rattle.orders.specs.Marks.{Block, LeavesRow, Pair}

abbrev none : ConceptSet
none = no_concepts

-- what is put into one row: the numbers that have P
abbrev pub InRow : ℕ → (ℕ → Type 0) → ℕ → ℕ → Type 0
InRow a P i j = (i ≡ a) × P j

-- a row united with a set
pub row_united : (rows : List ConceptSet) (a n : ℕ) (x : ConceptSet) → a < length rows → IsUnion (get_or rows a none).0 n x.0
    → Adds concept_width concept_width (concept_marks rows) (InRow a (Has n)) (concept_marks (set rows a x))
row_united rows a n x h u = record { at = λ i j hi hj. by i j (ℕ_discrete i a) }
  where
    by : (i j : ℕ) → Dec (i ≡ a) → IsTrue (concept_marks (set rows a x) i j) ↔ (IsTrue (concept_marks rows i j) ⊎ InRow a (Has n) i j)
    by i j (yes e) =
        rw (e, get_or-set_same rows a x none h)
        (let m = u.member j in
        let v = has_fact (get_or rows a none).0 j in
        let y = has_fact x.0 j in (
          λ p. ⊎_elim (λ q. inl (v.1 q)) (λ q. inr (refl, q)) (m.0 (y.0 p)),
          λ p. y.1 (m.1 (⊎_elim (λ q. inl (v.0 q)) (λ q. inr q.1) p)),
        ))
    by i j (no ne) = rw (get_or-set_other rows a i x none ne) ((λ p. inl p, ⊎_elim (λ p. p) (λ q. absurd (ne q.0))))

-- ---- the members of a set in turn

-- of the set n those in rest are still to come, and the rows of the others have been given each number that has P
pub record Putting (P : ℕ → Type 0) (n rest : ℕ) (m r : ℕ → ℕ → Bool) : Type 0 where
  pub part : (i : ℕ) → Has rest i → Has n i
  pub at : (i j : ℕ) → i < concept_width → j < concept_width
      → IsTrue (r i j) ↔ (IsTrue (m i j) ⊎ (Has n i × (Has rest i → ⊥) × P j))

module _ (P : ℕ → Type 0) (n : ℕ) (m : ℕ → ℕ → Bool) where
  pub putting_start : Putting P n n m m
  putting_start = record { part = λ i p. p; at = λ i j hi hj. (λ p. inl p, ⊎_elim (λ p. p) (λ q. absurd (q.1 q.0))) }

  pub putting_more : (a d b : ℕ) (s r : ℕ → ℕ → Bool) → Putting P n a m s → TakesFirst concept_width a d b
      → Adds concept_width concept_width s (InRow d P) r → Putting P n b m r
  putting_more a d b s r g t x =
      record {
        part = λ i p. g.part i ((t.rest.member i).0 p).0;
        at = λ i j hi hj.
            let y = x.at i j hi hj in
            let o = g.at i j hi hj in
            let l = t.rest.member i in (
              λ p.
                  ⊎_elim (λ q. ⊎_elim (λ u. inl u) (λ u. inr (u.0, λ z. u.1 ((l.0 z).0), u.2)) (o.0 q))
                  (λ q. inr (rw q.0 (g.part d t.member), λ z. (l.0 z).1 q.0, q.1)) (y.0 p),
              ⊎_elim (λ u. y.1 (inl (o.1 (inl u)))) (λ u. side i j (ℕ_discrete i d) (λ w. y.1 w) (λ w. o.1 w) (λ z. l.1 z) u.0 u.1 u.2),
            );
      }
    where
      side : (i j : ℕ) → Dec (i ≡ d) → (IsTrue (s i j) ⊎ InRow d P i j → IsTrue (r i j))
          → (IsTrue (m i j) ⊎ (Has n i × (Has a i → ⊥) × P j) → IsTrue (s i j)) → (Has a i × (i ≡ d → ⊥) → Has b i)
          → Has n i → (Has b i → ⊥) → P j → IsTrue (r i j)
      side i j (yes e) y o l h k p = y (inr (e, p))
      side i j (no ne) y o l h k p = y (inl (o (inr (h, (λ z. k (l (z, ne))), p))))

  pub putting_end : (rest : ℕ) (r : ℕ → ℕ → Bool) → Putting P n rest m r → IsEmpty rest
      → Adds concept_width concept_width m (Block n P) r
  putting_end rest r g e =
      record {
        at = λ i j hi hj.
            test-same (g.at i j hi hj) (⊎_elim (λ p. inl p) (λ u. inr (u.0, u.2)))
            (⊎_elim (λ p. inl p) (λ u. inr (u.0, (λ z. e i z), u.1)));
      }

-- a concept put into its own row, which is the row of the only member
pub own_put : (i n : ℕ) (m r : ℕ → ℕ → Bool) → IsOnly concept_width i n → i < concept_width
    → Adds concept_width concept_width m (Pair i i) r
    → Adds concept_width concept_width m (Block n (λ j. j ≡ i)) r
own_put i n m r s h a =
    adds_same concept_width concept_width m (Pair i i) (Block n (λ j. j ≡ i)) r a (λ k j hk hj p. ((s.member k).1 (p.0, h), p.1))
    (λ k j hk hj p. (((s.member k).0 p.0).0, p.1))

-- ---- all rows

-- a row that has all of the shared set
pub leaves_holder : (shared i row old both new rest : ℕ) → IsIntersection row shared both → both ≡ shared → i < concept_width
    → Inserts concept_width old i new → IsMinus row shared rest → LeavesRow shared i row old rest new
leaves_holder shared i row old both new rest n e h s m =
    record {
      kept = λ k p. (s.member k).1 (inl p);
      holds = λ k p. ⊎_elim (λ q. inl q) (λ q. inr (q.0, λ j x. ((n.member j).0 (rw e x)).0)) ((s.member k).0 p);
      part = λ j p. ((m.member j).0 p).0;
      all = λ j p. side j p (has shared j) (has_fact shared j);
    }
  where
    side : (j : ℕ) → Has row j → (b : Bool) → IsTrue b ↔ Has shared j → Has rest j ⊎ (Has shared j × Has new i)
    side j p true f = inr (f.0 refl, (s.member i).1 (inr (refl, h)))
    side j p false f = inl ((m.member j).1 (p, λ x. false≢true (f.1 x)))

-- another one
pub leaves_other : (shared i row old : ℕ) → LeavesRow shared i row old row old
leaves_other shared i row old = record { kept = λ k p. p; holds = λ k p. inl p; part = λ j p. p; all = λ j p. inl p }

-- the rows below i are put, but for what holders have of the shared set
pub record Transposing (rows out : List ConceptSet) (i shared holders : ℕ) : Type 0 where
  pub long : length out ≡ concept_width
  pub sound : (d k : ℕ) → d < concept_width → k < concept_width → IsTrue (concept_marks out d k)
      → (k < i) × IsTrue (concept_marks rows k d)
  pub whole : (d k : ℕ) → d < concept_width → k < concept_width → k < i → IsTrue (concept_marks rows k d)
      → IsTrue (concept_marks out d k) ⊎ (Has shared d × Has holders k)
  pub held : (d k : ℕ) → Has shared d → Has holders k → IsTrue (concept_marks rows k d)

pub transposing_start : (rows : List ConceptSet) (shared : ℕ) → Transposing rows (replicate concept_width none) 0 shared 0
transposing_start rows shared =
    record {
      long = length-replicate concept_width none;
      sound = λ d k hd hk p. absurd (blank_marks concept_width d k hd p);
      whole = λ d k hd hk l. absurd (omega arith);
      held = λ d k s h. absurd (has_none k ((has_fact 0 k).1 h));
    }

module _ (rows out : List ConceptSet) (i shared holders : ℕ) (g : Transposing rows out i shared holders) where
  pub transposing_more : (after : List ConceptSet) (rest new : ℕ) → LeavesRow shared i (get_or rows i none).0 holders rest new
      → Adds concept_width concept_width (concept_marks out) (Block rest (λ j. j ≡ i)) (concept_marks after) → length after ≡ concept_width
      → Transposing rows after (i + 1) shared new
  transposing_more after rest new l x long =
      record {
        long = long;
        sound = λ d k hd hk p.
            ⊎_elim (λ q. let o = g.sound d k hd hk q in (let h = o.0 in omega arith, o.1))
            (λ q. (let e = q.1 in omega arith, rw q.1 ((has_fact (get_or rows i none).0 d).1 (l.part d q.0))))
            ((x.at d k hd hk).0 p);
        whole = λ d k hd hk h p. side d k hd hk h p (ℕ_discrete k i);
        held = λ d k s h.
            ⊎_elim (λ q. g.held d k s q) (λ q. rw q.0 ((has_fact (get_or rows i none).0 d).1 (q.1 d s))) (l.holds k h);
      }
    where
      side : (d k : ℕ) → d < concept_width → k < concept_width → k < i + 1 → IsTrue (concept_marks rows k d) → Dec (k ≡ i)
          → IsTrue (concept_marks after d k) ⊎ (Has shared d × Has new k)
      side d k hd hk h p (yes e) =
          ⊎_elim (λ q. inl ((x.at d k hd hk).1 (inr (q, e)))) (λ q. inr (q.0, rw e q.1))
          (l.all d ((has_fact (get_or rows i none).0 d).0 (rw e at p)))
      side d k hd hk h p (no ne) =
          ⊎_elim (λ q. inl ((x.at d k hd hk).1 (inl q))) (λ q. inr (q.0, l.kept k q.1)) (g.whole d k hd hk (omega arith) p)

  pub transposing_end : (after : List ConceptSet) → concept_width ≤ i
      → Adds concept_width concept_width (concept_marks out) (Block shared (Has holders)) (concept_marks after)
      → IsTransposed concept_width (concept_marks rows) (concept_marks after)
  transposing_end after h x =
      record {
        at = λ d k hd hk.
            let o = x.at d k hd hk in
            test-once (concept_marks after d k) (concept_marks rows k d) (
              λ p. ⊎_elim (λ q. (g.sound d k hd hk q).1) (λ q. g.held d k q.0 q.1) (o.0 p),
              λ p. o.1 (g.whole d k hd hk (omega arith) p),
            ) (λ p. p, λ p. p);
      }
