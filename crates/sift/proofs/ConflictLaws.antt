-- Which roles are in conflict: a row for each, of what is excluded from what follows from it.
use Rattle.std.specs.Prelude.{ℕ, ◌≡◌, ◌+◌, ◌/◌, ◌<◌, IsTrue, Bool, List, length, get_or, set, replicate}
use Rattle.std.proofs.Common.{◌∙◌, arith, inl, inr, ⊎_elim, length-set, get_or-set_same, get_or-set_other}
use Rattle.std.proofs.Math.Decide.{ℕ_discrete}
use Rattle.std.proofs.lemmas.List.{length-replicate}
use Rattle.std.proofs.lemmas.Nat.Bits.{bit_at-zero}
use Rattle.kinds.specs.Kinds.{flip, flip-below, most_roles}
use Rattle.meaning.specs.Lent.{rule_width}
use Rattle.sets.specs.Bits.{role_width, Has, IsEmpty, IsUnion, IsSetOf}
use Rattle.sets.specs.Rows.{role_marks, no_roles}
use Rattle.sets.specs.declared.roles.RoleSet.{RoleSet}
use Rattle.sets.proofs.RowLaws.{has_fact}
use Rattle.clash.specs.Conflicts.{Excludes, AreMet}
use Rattle.clash.proofs.RoleLaws.{blank_roles}
use Rattle.sift.specs.Exclusions.{Below, ConflictBy, Collide, IsConflict, AreConflicts}

-- where nothing is excluded from a role and its inverse
pub row_none : (excluded : List RoleSet) (order : ℕ → ℕ → Bool) (r n : ℕ)
    → IsUnion (get_or excluded r no_roles).0 (get_or excluded (flip r) no_roles).0 n → IsEmpty n
    → IsSetOf (Below role_width (ConflictBy (role_marks excluded) order r)) 0
row_none excluded order r n u e = record { member = λ s. (λ p. absurd (none s p), λ w. absurd (⊎_elim own turned w.1)) }
  where
    none : (s : ℕ) → Has 0 s → ⊥
    none s p = let z = bit_at-zero s in absurd (omega arith)

    own : {x : ℕ → Bool} → AreMet (role_marks excluded r) x → ⊥
    own m = e m.role ((u.member m.role).1 (inl ((has_fact (get_or excluded r no_roles).0 m.role).0 m.left)))

    turned : {x : ℕ → Bool} → AreMet (role_marks excluded (flip r)) x → ⊥
    turned m = e m.role ((u.member m.role).1 (inr ((has_fact (get_or excluded (flip r) no_roles).0 m.role).0 m.left)))

-- the rows below n are made
pub record RowsMade (excluded : List RoleSet) (order : ℕ → ℕ → Bool) (conflicts : List RoleSet) (n : ℕ) : Type 0 where
  pub long : length conflicts ≡ role_width
  pub at : (r : ℕ) → r < n → IsSetOf (Below role_width (ConflictBy (role_marks excluded) order r)) (get_or conflicts r no_roles).0

module _ (excluded : List RoleSet) (order : ℕ → ℕ → Bool) where
  pub rows_start : RowsMade excluded order (replicate role_width no_roles) 0
  rows_start = record { long = length-replicate {A = RoleSet} role_width no_roles; at = λ r l. absurd (omega arith) }

  pub rows_more : (conflicts : List RoleSet) (n : ℕ) (x : RoleSet) → RowsMade excluded order conflicts n → n < role_width
      → IsSetOf (Below role_width (ConflictBy (role_marks excluded) order n)) x.0
      → RowsMade excluded order (set conflicts n x) (n + 1)
  rows_more conflicts n x w h s = record { long = length-set conflicts n x ∙ w.long; at = λ r l. by r l (ℕ_discrete r n) }
    where
      by : (r : ℕ) → r < n + 1 → Dec (r ≡ n)
          → IsSetOf (Below role_width (ConflictBy (role_marks excluded) order r)) (get_or (set conflicts n x) r no_roles).0
      by r l (yes e) = rw (e, get_or-set_same conflicts n x no_roles (let g = w.long in omega arith)) s
      by r l (no ne) = rw (get_or-set_other conflicts n r x no_roles ne) (w.at r (omega arith))

module _ (table : List ℕ) (order : ℕ → ℕ → Bool) where
  pub conflicts_none : length table / rule_width ≡ 0 → AreConflicts table order (role_marks (replicate role_width no_roles))
  conflicts_none e = record { at = λ r s hr hs. (λ p. absurd (blank_roles role_width r s hr p), λ w. absurd (⊎_elim never never w)) }
    where
      never : {r s : ℕ} → Collide table order r s → ⊥
      never w = ⊎_elim (λ l. let h = l.1 in absurd (omega arith)) (λ l. let h = l.1 in absurd (omega arith)) w.excluded.sides

  pub conflicts_end : (excluded conflicts : List RoleSet) (n : ℕ) → Excludes table order (role_marks excluded)
      → RowsMade excluded order conflicts n → n ≡ role_width → AreConflicts table order (role_marks conflicts)
  conflicts_end excluded conflicts n x w e = record { at = λ r s hr hs. (to r s hr hs, from r s hr hs) }
    where
      met-out : {r s : ℕ} → r < role_width → AreMet (role_marks excluded r) (order s) → Collide table order r s
      met-out {r} h m = record { by = m.role; row = m.within; excluded = (x.at r m.role h m.within).0 m.left; above = m.right }

      met-in : {r s : ℕ} → r < role_width → Collide table order r s → AreMet (role_marks excluded r) (order s)
      met-in {r} h c = record { role = c.by; within = c.row; left = (x.at r c.by h c.row).1 c.excluded; right = c.above }

      row : (r : ℕ) → r < role_width → IsSetOf (Below role_width (ConflictBy (role_marks excluded) order r)) (get_or conflicts r no_roles).0
      row r h = w.at r (omega arith)

      to : (r s : ℕ) → r < role_width → s < role_width → IsTrue (role_marks conflicts r s) → IsConflict table order r s
      to r s hr hs p =
          let q = ((row r hr).member s).0 ((has_fact (get_or conflicts r no_roles).0 s).0 p) in
          ⊎_elim (λ m. inl (met-out hr m)) (λ m. inr (met-out (flip-below r most_roles hr) m)) q.1

      from : (r s : ℕ) → r < role_width → s < role_width → IsConflict table order r s → IsTrue (role_marks conflicts r s)
      from r s hr hs c =
          (has_fact (get_or conflicts r no_roles).0 s).1
          (((row r hr).member s).1 (hs, ⊎_elim (λ m. inl (met-in hr m)) (λ m. inr (met-in (flip-below r most_roles hr) m)) c))
