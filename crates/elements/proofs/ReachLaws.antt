-- The generating roles: what some individual has, and a set that grows, with the set of those still to follow.
use Rattle.std.specs.Prelude.{ℕ, ◌+◌, ◌-◌, ◌*◌, ◌^◌, ◌<◌, ◌≡◌, ◌↔◌, ◌⊎◌, Bool, true, List, get_or}
use Rattle.std.proofs.Common.{sym, ◌∙◌, inl, inr, ⊎_elim, arith}
use Rattle.std.proofs.Math.Decide.{ℕ_discrete}
use Rattle.std.proofs.lemmas.Nat.Bits.{bit_at-zero, bit_at-lt, same_from_bits}
use Rattle.std.specs.Int.{bit_at}
use Rattle.std.specs.Int.RustNames.{bit_or}
use Rattle.std.proofs.lemmas.Nat.{le_or_l}
use Rattle.kinds.specs.Kinds.{base, flip, most_individuals}
use Rattle.sets.specs.Bits.{has, Has, IsLowered, IsUnion, IsMinus, TakesFirst, role_width}
use Rattle.sets.specs.Rows.{concept_marks, no_concepts}
use Rattle.sets.specs.declared.concepts.ConceptSet.{ConceptSet}
use Rattle.sets.proofs.Laws.{is_union, past}
use Rattle.sets.proofs.RowLaws.{has_fact}
use Rattle.elements.specs.Generating.{IsGenerating, AreGenerating}
use Rattle.elements.specs.Generating as generating_roles
use Rattle.elements.specs.Concepts.{Gathers}
use Rattle.elements.specs.Steps.{AreSeeds, Reached, seed, child, IsReached, ChildRoles}

-- ---- all rows in one

pub gathers_none : (m : ℕ → ℕ → Bool) → Gathers 0 m 0
gathers_none m = record { member = λ j. (λ p. let z = bit_at-zero j in absurd (omega arith), λ w. let l = w.1 in absurd (omega arith)) }

pub gathers_more : (rows : List ConceptSet) (i n r : ℕ) → Gathers i (concept_marks rows) n → IsUnion n (get_or rows i no_concepts).0 r
    → Gathers (i + 1) (concept_marks rows) r
gathers_more rows i n r g u =
    record {
      member = λ j.
          let s = u.member j in
          let z = has_fact (get_or rows i no_concepts).0 j in (
            λ p. ⊎_elim (λ q. let w = (g.member j).0 q in (w.0, (let l = w.1 in omega arith), w.2)) (λ q. (i, omega arith, z.1 q)) (s.0 p),
            λ w. s.1 (last j w.0 w.1 w.2 (ℕ_discrete w.0 i)),
          );
    }
  where
    last : (j k : ℕ) → k < i + 1 → concept_marks rows k j ≡ true → Dec (k ≡ i) → Has n j ⊎ Has (get_or rows i no_concepts).0 j
    last j k l p (yes e) = inr ((has_fact (get_or rows i no_concepts).0 j).0 (rw e at p))
    last j k l p (no ne) = inl ((g.member j).1 (k, omega arith, p))

-- the roles of all rows
pub seeds_end : (m : ℕ → ℕ → Bool) (n r : ℕ) → Gathers most_individuals m n → IsLowered base n r → r < 2 ^ 64 → AreSeeds m r
seeds_end m n r g o small =
    record {
      member = λ R. (
        λ p. let v = (g.member (base + R)).0 ((o.member R).0 p) in (past role_width r R small p, v.0, v.1, v.2),
        λ w. (o.member R).1 ((g.member (base + R)).1 (w.1, w.2, w.3)),
      );
    }

-- what is reached from the seeds are the generating roles
pub all_generating : (concepts order : ℕ → ℕ → Bool) (seeds generating : ℕ) → AreSeeds concepts seeds → IsReached seeds order generating
    → AreGenerating concepts order (has generating)
all_generating concepts order seeds generating s r =
    record {
      at = λ R h.
          let f = has_fact generating R in
          (λ p. to ((r.member R h).0 (f.0 p)), λ l. f.1 ((r.member R h).1 (back l)));
    }
  where
    to : {R : ℕ} → Reached seeds order R → IsGenerating concepts order R
    to (seed R p) = let w = (s.member R).0 p in generating_roles.seed w.1 R w.2 w.0 w.3
    to (child R S l p e) = generating_roles.child R S l (to p) e

    back : {R : ℕ} → IsGenerating concepts order R → Reached seeds order R
    back (generating_roles.seed a R h l p) = seed R ((s.member R).1 (l, a, h, p))
    back (generating_roles.child R S l p e) = child R S l (back p) e

-- ---- the set that grows

-- the set that grows, and those of it whose steps are still to be taken
pub record Reaching (seeds : ℕ) (m : ℕ → ℕ → Bool) (generating waiting : ℕ) : Type 0 where
  pub sound : (R : ℕ) → Has generating R → Reached seeds m R
  pub starts : (R : ℕ) → Has seeds R → Has generating R
  pub part : (R : ℕ) → Has waiting R → Has generating R
  pub follows : (R S : ℕ) → S < role_width → Has generating R → (Has waiting R → ⊥) → m (base + flip R) (base + S) ≡ true → Has generating S

module _ (seeds : ℕ) (m : ℕ → ℕ → Bool) where
  pub reaching_start : Reaching seeds m seeds seeds
  reaching_start = record { sound = λ R p. seed R p; starts = λ R p. p; part = λ R p. p; follows = λ R S l p q e. absurd (q p) }

  pub reaching_end : (generating waiting : ℕ) → Reaching seeds m generating waiting → ((R : ℕ) → Has waiting R → ⊥)
      → IsReached seeds m generating
  reaching_end generating waiting r h = record { member = λ R l. (r.sound R, back R) }
    where
      back : (R : ℕ) → Reached seeds m R → Has generating R
      back T (seed R p) = r.starts R p
      back T (child R S l p e) = r.follows R S l (back R p) (h R) e

  module _ (generating waiting role rest next : ℕ) (r : Reaching seeds m generating waiting) (t : TakesFirst role_width waiting role rest)
      (n : ChildRoles m role next) where
    -- one that was not waiting, or is the one that is followed
    followed : (R : ℕ) → (Has rest R → ⊥) → (R ≡ role) ⊎ (Has waiting R → ⊥)
    followed R q = side (ℕ_discrete R role)
      where
        side : Dec (R ≡ role) → (R ≡ role) ⊎ (Has waiting R → ⊥)
        side (yes e) = inl e
        side (no ne) = inr (λ p. q ((t.rest.member R).1 (p, ne)))

    pub reaching_same : ((S : ℕ) → Has next S → Has generating S) → Reaching seeds m generating rest
    reaching_same all =
        record {
          sound = r.sound;
          starts = r.starts;
          part = λ R p. r.part R ((t.rest.member R).0 p).0;
          follows = λ R S l p q e. ⊎_elim (λ f. all S ((n.member S).1 (l, rw f at e))) (λ f. r.follows R S l p f e) (followed R q);
        }

    pub reaching_more : (grown fresh more : ℕ) → IsUnion generating next grown → IsMinus next generating fresh → IsUnion rest fresh more
        → Reaching seeds m grown more
    reaching_more grown fresh more g f u =
        record {
          sound = λ R p. ⊎_elim (r.sound R)
              (λ q. child role R ((n.member R).0 q).0 (r.sound role (r.part role t.member)) ((n.member R).0 q).1) ((g.member R).0 p);
          starts = λ R p. (g.member R).1 (inl (r.starts R p));
          part = λ R p. (g.member R).1
              (⊎_elim (λ q. inl (r.part R ((t.rest.member R).0 q).0)) (λ q. inr ((f.member R).0 q).0) ((u.member R).0 p));
          follows = λ R S l p q e. (g.member S).1 (by R S l (ℕ_discrete (bit_at generating R) 1) ((g.member R).0 p) q e);
        }
      where
        by : (R S : ℕ) → S < role_width → Dec (bit_at generating R ≡ 1) → Has generating R ⊎ Has next R → (Has more R → ⊥)
            → m (base + flip R) (base + S) ≡ true → Has generating S ⊎ Has next S
        by R S l (yes p) o q e =
            ⊎_elim (λ f. inr ((n.member S).1 (l, rw f at e))) (λ f. inl (r.follows R S l p f e))
            (followed R (λ x. q ((u.member R).1 (inl x))))
        by R S l (no np) o q e = absurd (q ((u.member R).1 (inr ((f.member R).1 (⊎_elim (λ p. absurd (np p)) (λ p. p) o, np)))))

-- what a row of the order has beyond 64, of the inverse's concept
pub child_roles : (rows : List ConceptSet) (R r : ℕ) → r < 2 ^ 64 → IsLowered base (get_or rows (base + flip R) no_concepts).0 r
    → ChildRoles (concept_marks rows) R r
child_roles rows R r small o =
    record {
      member = λ S.
          let f = has_fact (get_or rows (base + flip R) no_concepts).0 (base + S) in
          (λ p. (past role_width r S small p, f.1 ((o.member S).0 p)), λ p. (o.member S).1 (f.0 p.1));
    }

-- a turn that adds nothing leaves fewer to follow, and one that adds some a larger set
pub less_waiting : (generating waiting rest : ℕ) → rest < waiting
    → (2 ^ 64 - generating) * 2 ^ 64 + rest < (2 ^ 64 - generating) * 2 ^ 64 + waiting
less_waiting generating waiting rest h = omega arith

pub more_generating : (generating grown waiting more : ℕ) → generating < grown → grown < 2 ^ 64 → more < 2 ^ 64
    → (2 ^ 64 - grown) * 2 ^ 64 + more < (2 ^ 64 - generating) * 2 ^ 64 + waiting
more_generating generating grown waiting more h s l = omega arith

-- a union of the same number has nothing new; another one is more
pub union_same : (m n r : ℕ) → IsUnion m n r → r ≡ m → (i : ℕ) → Has n i → Has m i
union_same m n r u e i p = let q = (u.member i).1 (inr p) in rw e at q

same_bit : (a b : ℕ) → a < 2 → b < 2 → (a ≡ 1) ↔ (b ≡ 1) → a ≡ b
same_bit a b h k s = side (ℕ_discrete a 1) (ℕ_discrete b 1)
  where
    side : Dec (a ≡ 1) → Dec (b ≡ 1) → a ≡ b
    side (yes p) d = p ∙ sym (s.0 p)
    side (no p) (yes q) = absurd (p (s.1 q))
    side (no p) (no q) = omega arith

pub union_more : (m n r : ℕ) → IsUnion m n r → (r ≡ m → ⊥) → m < r
union_more m n r u ne =
    let e : r ≡ bit_or m n = same_from_bits r (bit_or m n) (λ i.
    let a = u.member i in
    let b = (is_union m n).member i in
    same_bit (bit_at r i) (bit_at (bit_or m n) i) (bit_at-lt r i) (bit_at-lt (bit_or m n) i) (λ p. b.1 (a.0 p), λ p. a.1 (b.0 p))) in
    let l = le_or_l m n in
    omega (arith, ne)
