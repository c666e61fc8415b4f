-- The doomed roles: a set that grows by the roles that lead to it, until it stands.
use Rattle.std.specs.Prelude.{ℕ, ◌≡◌, ◌+◌, ◌-◌, ◌^◌, ◌<◌, ◌↔◌, IsTrue, Bool}
use Rattle.std.proofs.Common.{arith, inl, ⊎_elim}
use Rattle.laws.specs.Truth.{test-same}
use Rattle.kinds.specs.Kinds.{base}
use Rattle.sets.specs.Bits.{role_width, has, Has, Meets, IsRaised, IsUnion, IsSetOf}
use Rattle.sets.proofs.Laws.{past}
use Rattle.sets.proofs.RowLaws.{has_fact}
use Rattle.elements.proofs.ReachLaws.{union_same, union_more}
use Rattle.sift.specs.Exclusions.{Below, Promises, LeadsTo, IsDoomed, here, below, AreDoomed}

-- a row that meets a set of roles, raised to their ∃
pub promises_is : (row set raised : ℕ) (b : Bool) → IsRaised base set raised → set < 2 ^ 64 → IsTrue b ↔ Meets row raised
    → IsTrue b ↔ Promises (has row) set
promises_is row set raised b u small t =
    test-same t
    (λ m.
    let w = (u.member m.0).0 m.2 in
    let l = w.0 in
    let e : base + (m.0 - base) ≡ m.0 = omega arith in
    record {
      role = m.0 - base;
      within = past role_width set (m.0 - base) small w.1;
      member = w.1;
      has = rw e ((has_fact row m.0).1 m.1);
    })
    (λ w.
    let e : base + w.role - base ≡ w.role = omega arith in
    (base + w.role, (has_fact row (base + w.role)).0 w.has, (u.member (base + w.role)).1 (omega arith, rw e w.member)))

-- what is known of the set while it grows
pub record Growing (order : ℕ → ℕ → Bool) (breaking doomed : ℕ) : Type 0 where
  pub keeps : (r : ℕ) → Has breaking r → Has doomed r
  pub sound : (r : ℕ) → Has doomed r → IsDoomed order breaking r

module _ (order : ℕ → ℕ → Bool) (breaking : ℕ) where
  pub growing_start : Growing order breaking breaking
  growing_start = record { keeps = λ r p. p; sound = λ r p. here p }

  module _ (doomed leading more : ℕ) (g : Growing order breaking doomed) (l : IsSetOf (Below role_width (LeadsTo order doomed)) leading)
      (u : IsUnion doomed leading more) where
    pub growing_more : Growing order breaking more
    growing_more = record {
      keeps = λ r p. (u.member r).1 (inl (g.keeps r p));
      sound = λ r p.
          ⊎_elim (λ q. g.sound r q) (λ q. let w = (l.member r).0 q in below w.0 w.1.within w.1.has (g.sound w.1.role w.1.member))
          ((u.member r).0 p);
    }

    pub growing_end : more ≡ doomed → AreDoomed order breaking doomed
    growing_end e = record { at = λ r. (g.sound r, closed) }
      where
        closed : {r : ℕ} → IsDoomed order breaking r → Has doomed r
        closed (here {r = r} p) = g.keeps r p
        closed (below {r = r} {s = s} h k f d) =
            union_same doomed leading more u e r ((l.member r).1 (h, record { role = s; within = k; member = closed d; has = f }))

-- and another one is larger
pub growing_less : (doomed leading more : ℕ) → IsUnion doomed leading more → (more ≡ doomed → ⊥) → more < 2 ^ 64
    → 2 ^ 64 - more < 2 ^ 64 - doomed
growing_less doomed leading more u ne h = let k = union_more doomed leading more u ne in omega arith
