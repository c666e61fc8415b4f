-- The sides of role rules: how a loop over the rules finds them, and that closing marks nothing new but from the left to the right.
use Rattle.std.specs.Prelude.{ℕ, ◌/◌, ◌<◌, ◌≤◌, ◌≡◌, ◌≢◌, refl, ◌⊎◌, ◌||◌, ◌&&◌, Bool, true, false, List, [], length, get_or}
use Rattle.std.proofs.Common.{sym, ◌∙◌, ap, inl, inr, ⊎_elim, arith, below_more, Bor}
use Rattle.std.proofs.Math.Decide.{ℕ_discrete}
use Rattle.std.proofs.lemmas.Bool.{false≢true}
use Rattle.kinds.specs.declared.SignedRole.{SignedRole}
use Rattle.kinds.specs.Kinds.{inverse}
use Rattle.laws.specs.Fill.{Filling, all_done}
use Rattle.laws.specs.Marks.{mark}
use Rattle.laws.specs.Truth.{test-once}
use Rattle.laws.specs.Warshall.{Stepped, here, smallest, or_cases, and_left, and_right}
use Rattle.meaning.specs.Lent.{field, rule_width}
use Rattle.sets.specs.Bits.{has, Has, IsEmpty, IsOnly, Inserts, role_width}
use Rattle.sets.specs.Rows.{Adds, no_roles, role_marks}
use Rattle.sets.specs.declared.roles.RoleSet.{RoleSet}
use Rattle.sets.proofs.RowLaws.{has_fact}
use Rattle.tables.specs.Every.{IsNext}
use Rattle.tables.specs.Records.{read_role_pair}
use Rattle.tables.specs.declared.records.RolePair.{RolePair}
use Rattle.orders.specs.Rows.{IsRoleOrder}
use Rattle.orders.specs.Marks.{Diagonal, Packs, RoleHit, RoleListed, Shows, turn}
use Rattle.orders.specs.Sides.{InsertsBoth, Leads, OffDiagonal, OwnRows, AreOwn}
use Rattle.orders.proofs.Follow.{turn-turn, turn_below, role-closed}

-- a role and its inverse, put in one after the other
pub both_inserted : (n m r : ℕ) (R back : SignedRole) → Inserts role_width n R.0 m → back ≡ inverse R → Inserts role_width m back.0 r
    → InsertsBoth n R.0 r
both_inserted n m r R back a e b =
    record {
      kept = λ i p. (b.member i).1 (inl ((a.member i).1 (inl p)));
      own = λ h. (b.member R.0).1 (inl ((a.member R.0).1 (inr (refl, h))));
      inverse = λ h. let f : turn R.0 ≡ back.0 = sym (ap (λ (S : SignedRole). S.0) e) in (b.member (turn R.0)).1
          (inr (f, rw f at (turn_below R.0 h)));
    }

-- ---- the loop over the rules

-- the iterator goes through these rules, and the sets have the sides of those before the next one
pub record Sided (rules table : Bor (List ℕ)) (next left right : ℕ) : Type 0 where
  pub same : table ≡ rules
  pub each : (k : ℕ) → k < next → Leads left right (RoleHit rules.now k)

pub sided_start : (rules table : Bor (List ℕ)) (left right : ℕ) → table ≡ rules → Sided rules table 0 left right
sided_start rules table left right e = record { same = e; each = λ k h. absurd (omega arith) }

pub sided_end : (rules table : Bor (List ℕ)) (next left right : ℕ) → Sided rules table next left right
    → length table.now / rule_width ≤ next
    → Leads left right (RoleListed rules.now)
sided_end rules table next left right s g =
    let f = rw s.same at g in
    record {
      from = λ i j hi hj p. let l = p.1 in (s.each p.0 (omega arith)).from i j hi hj p.2;
      to = λ i j hi hj p. let l = p.1 in (s.each p.0 (omega arith)).to i j hi hj p.2;
    }

module _ (t : List ℕ) (k : ℕ) where
  -- a side of rule k or of its inverse is in the set where its number was put in
  sided : (f n r i : ℕ) → InsertsBoth n f r → i < role_width → (i ≡ f) ⊎ (turn i ≡ f) → Has r i
  sided f n r i s h (inl e) = rw e (s.own (rw e at h))
  sided f n r i s h (inr e) =
      let q : i ≡ turn f = sym (turn-turn i) ∙ ap turn e in
      rw q (s.inverse (rw e at (turn_below i h)))

  sided_rule : (l r m n : ℕ) → InsertsBoth l (field rule_width t 0 k) m → InsertsBoth r (field rule_width t 1 k) n → Leads m n (RoleHit t k)
  sided_rule l r m n a b =
      record {
        from = λ i j hi hj p. sided _ l m i a hi (⊎_elim (λ q. inl q.0) (λ q. inr q.0) p);
        to = λ i j hi hj p. sided _ r n j b hj (⊎_elim (λ q. inl q.1) (λ q. inr q.1) p);
      }

pub sided_more : (rules table after : Bor (List ℕ)) (k next l r m n : ℕ) (one : RolePair) → Sided rules table k l r
    → IsNext rule_width read_role_pair table.now k one next → after ≡ table → InsertsBoth l one.left.0 m → InsertsBoth r one.right.0 n
    → Sided rules after next m n
sided_more rules table after k next l r m n one s g e a b =
    let last = sided_rule rules.now k l r m n (rw (g.is, s.same) at a) (rw (g.is, s.same) at b) in
    record {
      same = e ∙ s.same;
      each =
          rw g.after
          (below_more (λ h. Leads m n (RoleHit rules.now h)) k
          (λ h lt. let o = s.each h lt in record {
            from = λ i j hi hj p. a.kept i (o.from i j hi hj p);
            to = λ i j hi hj p. b.kept j
                (o.to i j hi hj p);
          }) last);
    }

pub ruleset listed = (sided_start, sided_end)

-- ---- closing

module _ (left right : ℕ) where
  -- marks that show the rules
  pub leads_shown : (rules : List ℕ) (m : ℕ → ℕ → Bool) → Shows role_width m (RoleListed rules) → Leads left right (RoleListed rules)
      → Leads left right (OffDiagonal m)
  leads_shown rules m s l =
      record {
        from = λ i j hi hj p. l.from i j hi hj ((s.at i j hi hj).0 p.0);
        to = λ i j hi hj p. l.to i j hi hj ((s.at i j hi hj).0 p.0);
      }

  -- the diagonal put to them
  pub leads_diagonal : (m r : ℕ → ℕ → Bool) → Leads left right (OffDiagonal m) → Adds role_width role_width m Diagonal r
      → Leads left right (OffDiagonal r)
  leads_diagonal m r l a =
      record {
        from = λ i j hi hj p. ⊎_elim (λ q. l.from i j hi hj (q, p.1)) (λ e. absurd (p.1 e)) ((a.at i j hi hj).0 p.0);
        to = λ i j hi hj p. ⊎_elim (λ q. l.to i j hi hj (q, p.1)) (λ e. absurd (p.1 e)) ((a.at i j hi hj).0 p.0);
      }

  module _ (m : ℕ → ℕ → Bool) (s : Leads left right (OffDiagonal m)) (k : ℕ) where
    -- a step at k
    pub leads_step : (r : ℕ → ℕ → Bool) → k < role_width → Stepped role_width m k r → Leads left right (OffDiagonal r)
    leads_step r hk t =
        record {
          from = λ i j hi hj p. ⊎_elim (λ q. s.from i j hi hj (q, p.1)) (λ q. start i j hi hj p.1 q.0 q.1 (ℕ_discrete i k))
              (came i j hi hj p.0);
          to = λ i j hi hj p. ⊎_elim (λ q. s.to i j hi hj (q, p.1)) (λ q. end i j hi hj p.1 q.0 q.1 (ℕ_discrete k j)) (came i j hi hj p.0);
        }
      where
        came : (i j : ℕ) → i < role_width → j < role_width → r i j ≡ true → (m i j ≡ true) ⊎ ((m i k ≡ true) × (m k j ≡ true))
        came i j hi hj p =
            ⊎_elim (λ q. inl q) (λ q. inr (and_left (m i k) (m k j) q, and_right (m i k) (m k j) q))
            (or_cases (m i j) (m i k && m k j) (sym (t i j hi hj) ∙ p))

        start : (i j : ℕ) → i < role_width → j < role_width → i ≢ j → m i k ≡ true → m k j ≡ true → Dec (i ≡ k) → Has left i
        start i j hi hj ne p q (yes e) = s.from i j hi hj (rw e q, ne)
        start i j hi hj ne p q (no n) = s.from i k hi hk (p, n)

        end : (i j : ℕ) → i < role_width → j < role_width → i ≢ j → m i k ≡ true → m k j ≡ true → Dec (k ≡ j) → Has right j
        end i j hi hj ne p q (yes e) = s.to i j hi hj (rw (← e) p, ne)
        end i j hi hj ne p q (no n) = s.to k j hk hj (q, n)

    -- at a role that is not on both sides a step marks nothing new
    pub idle : k < role_width → (Has left k × Has right k → ⊥) → Stepped role_width m k m
    idle hk none = λ i j hi hj. absorb (m i j) (m i k && m k j)
        (λ p. by i j hi hj (and_left (m i k) (m k j) p) (and_right (m i k) (m k j) p) (ℕ_discrete i k) (ℕ_discrete k j))
      where
        absorb : (a b : Bool) → (b ≡ true → a ≡ true) → a ≡ (a || b)
        absorb true b f = refl
        absorb false true f = f refl
        absorb false false f = refl

        by : (i j : ℕ) → i < role_width → j < role_width → m i k ≡ true → m k j ≡ true → Dec (i ≡ k) → Dec (k ≡ j) → m i j ≡ true
        by i j hi hj p q (yes e) d = rw e q
        by i j hi hj p q (no n) (yes e) = rw (← e) p
        by i j hi hj p q (no n) (no o) = absurd (none (s.from k j hk hj (q, o), s.to i k hi hk (p, n)))

-- a row that marks its own role alone is the set of that role
pub own_packs : (left i r : ℕ) (m : List (List Bool)) → i < role_width → OwnRows left (mark m) → (Has left i → ⊥) → IsOnly role_width i r
    → Packs (get_or m i []) r
own_packs left i r m hi o none s =
    record {
      at = λ j hj.
          let u = s.member j in
          test-once (has r j) (mark m i j)
          (λ p. (u.0 ((has_fact r j).0 p)).0, λ e. (has_fact r j).1 (u.1 (e, hi))) (o.at i j hi hj none);
    }

-- ---- no rule in range

-- each row below i is that of its own role
abbrev pub OwnRow : ℕ → RoleSet → Type 0
OwnRow i x = IsOnly role_width i x.0

pub own_end : (old rows : List RoleSet) (i : ℕ) → Filling OwnRow no_roles role_width old rows i → role_width ≤ i → AreOwn rows
own_end old rows i f h =
    record {
      at = λ a j ha hj.
          let s = (all_done OwnRow no_roles role_width old rows i f h a ha).member j in
          let g = has_fact (get_or rows a no_roles).0 j in
          (λ p. (s.0 (g.0 p)).0, λ e. g.1 (s.1 (e, ha)));
    }

-- where no role is on the left of a rule, nothing follows but from itself
pub own_order : (rules : List ℕ) (left right : ℕ) (rows : List RoleSet) → Leads left right (RoleListed rules) → IsEmpty left → AreOwn rows
    → IsRoleOrder rules (role_marks rows)
own_order rules left right rows l none o =
    role-closed rules (λ i j. false)
    (record { at = λ i j hi hj. (λ p. absurd (false≢true p), λ p. absurd (none i (l.from i j hi hj p))) }) (role_marks rows)
    (record {
      only = λ i j hi hj p. rw ((o.at i j hi hj).0 p) here;
      each = λ i j hi hj s. (o.at i j hi hj).1
          (sym (smallest {P = λ a b. a ≡ b} (λ a. refl) (λ a b p. absurd (false≢true p.mark)) (λ a b c p q. p ∙ q) s));
    })
