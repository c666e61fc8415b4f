-- The exclusions of roles as sets, and what a row breaks by them.
use Rattle.std.specs.Prelude.{ℕ, ◌≡◌, refl, ◌^◌, ◌+◌, ◌≤◌, ◌<◌, ◌⊎◌, ◌↔◌, IsTrue, Bool, List, length, get_or, set, replicate}
use Rattle.std.proofs.Common.{◌∙◌, arith, inl, inr, ⊎_elim, length-set, get_or-set_same, get_or-set_other}
use Rattle.std.proofs.Math.Decide.{ℕ_discrete, dec_lt}
use Rattle.std.proofs.lemmas.Nat.Bits.{bit_at_above, bit_at-zero}
use Rattle.std.proofs.lemmas.List.{get_or-replicate, length-replicate}
use Rattle.laws.specs.Truth.{test-same}
use Rattle.sets.specs.Bits.{role_width, has, Has, Meets, IsEmpty, Inserts, InsertsIf, IsUnion, TakesFirst}
use Rattle.sets.specs.Rows.{Adds, role_marks, no_roles}
use Rattle.sets.specs.declared.roles.RoleSet.{RoleSet}
use Rattle.sets.proofs.RowLaws.{has_fact, has_none, adds_then}
use Rattle.tables.specs.declared.records.RolePair.{RolePair}
use Rattle.orders.specs.Marks.{Pair, Listed}
use Rattle.clash.specs.Clashes.{BothSides, Marked, HaveBothSides}
use Rattle.clash.specs.Conflicts.{BothWays, SidesListed, Joins, Raises, IsUnionBelow, IsExcluded, Excludes, IsConcerned, AreConcerned}
use Rattle.clash.specs.Conflicts.{AreMet}

-- rows of empty sets mark nothing
pub blank_roles : (n i j : ℕ) → i < n → IsTrue (role_marks (replicate n no_roles) i j) → ⊥
blank_roles n i j l p = let e = get_or-replicate n i no_roles no_roles l in has_none j (rw e at p)

-- ---- a pair put in both ways

-- a member put into row a
stored : (rows : List RoleSet) (a b : ℕ) (x : RoleSet) → a < length rows → b < role_width
    → Inserts role_width (get_or rows a no_roles).0 b x.0
    → Adds role_width role_width (role_marks rows) (Pair a b) (role_marks (set rows a x))
stored rows a b x h l s = record { at = λ i j hi hj. by i j (ℕ_discrete i a) }
  where
    by : (i j : ℕ) → Dec (i ≡ a) → IsTrue (role_marks (set rows a x) i j) ↔ (IsTrue (role_marks rows i j) ⊎ Pair a b i j)
    by i j (yes e) =
        rw (e, get_or-set_same rows a x no_roles h)
        (let u = s.member j in
        let v = has_fact (get_or rows a no_roles).0 j in
        let y = has_fact x.0 j in (
          λ p. ⊎_elim (λ q. inl (v.1 q)) (λ q. inr (refl, q.0)) (u.0 (y.0 p)),
          λ p. y.1 (u.1 (⊎_elim (λ q. inl (v.0 q)) (λ q. inr (q.1, l)) p)),
        ))
    by i j (no ne) = rw (get_or-set_other rows a i x no_roles ne) ((λ p. inl p, ⊎_elim (λ p. p) (λ q. absurd (ne q.0))))

pub stored_both : (rows : List RoleSet) (p : RolePair) (x y : RoleSet) → length rows ≡ role_width → p.left.0 < role_width
    → p.right.0 < role_width
    → Inserts role_width (get_or rows p.left.0 no_roles).0 p.right.0 x.0
    → Inserts role_width (get_or (set rows p.left.0 x) p.right.0 no_roles).0 p.left.0 y.0
    → Adds role_width role_width (role_marks rows) (BothWays p) (role_marks (set (set rows p.left.0 x) p.right.0 y))
stored_both rows p x y l hi hj s t =
    adds_then role_width role_width (role_marks rows) (Pair p.left.0 p.right.0) (Pair p.right.0 p.left.0) _ _
    (stored rows p.left.0 p.right.0 x (omega arith) hj s)
    (stored (set rows p.left.0 x) p.right.0 p.left.0 y (let e = length-set rows p.left.0 x in omega arith) hi t)

-- where a number of the pair is out of range it adds nothing
pub stored_none : (m : ℕ → ℕ → Bool) (p : RolePair) → (p.left.0 < role_width → p.right.0 < role_width → ⊥)
    → Adds role_width role_width m (BothWays p) m
stored_none m p never = record {
  at = λ i j hi hj. (
    λ q. inl q,
    ⊎_elim (λ q. q) (⊎_elim (λ q. absurd (never (let e = q.0 in omega arith) (let e = q.1 in omega arith)))
        (λ q. absurd (never (let e = q.1 in omega arith) (let e = q.0 in omega arith)))),
  );
}

-- ---- rows joined

-- r has what the rows of those members of n have that are past
pub record Joining (rows : ℕ → ℕ → Bool) (n rest r : ℕ) : Type 0 where
  pub part : (i : ℕ) → Has rest i → Has n i
  pub member : (j : ℕ) → Has r j ↔ ((i : ℕ) × (i < role_width) × Has n i × (Has rest i → ⊥) × IsTrue (rows i j))

module _ (rows : List RoleSet) (n : ℕ) where
  pub joining_start : Joining (role_marks rows) n n 0
  joining_start = record {
    part = λ i p. p;
    member = λ j. let z = bit_at-zero j in (λ p. absurd (omega arith), λ w. absurd (w.3 w.2));
  }

  pub joining_more : (m k r out new : ℕ) → Joining (role_marks rows) n m out → TakesFirst role_width m k r
      → IsUnion out (get_or rows k no_roles).0 new
      → Joining (role_marks rows) n r new
  joining_more m k r out new g t u = record {
    part = λ i p. g.part i ((t.rest.member i).0 p).0;
    member = λ j. (
      λ p.
          ⊎_elim (λ q. let w = (g.member j).0 q in (w.0, w.1, w.2, (λ x. w.3 ((t.rest.member w.0).0 x).0), w.4))
          (λ q. (k, t.within, g.part k t.member, (λ x. ((t.rest.member k).0 x).1 refl), (has_fact (get_or rows k no_roles).0 j).1 q))
          ((u.member j).0 p),
      λ w. (u.member j).1 (side j w.0 w.1 w.2 w.3 w.4 (ℕ_discrete w.0 k)),
    );
  }
    where
      side : (j i : ℕ) → i < role_width → Has n i → (Has r i → ⊥) → IsTrue (role_marks rows i j) → Dec (i ≡ k)
          → Has out j ⊎ Has (get_or rows k no_roles).0 j
      side j i l p q x (yes e) = inr ((has_fact (get_or rows k no_roles).0 j).0 (rw e at x))
      side j i l p q x (no ne) = inl ((g.member j).1 (i, l, p, (λ y. q ((t.rest.member i).1 (y, ne))), x))

  pub joining_end : (m out : ℕ) → Joining (role_marks rows) n m out → IsEmpty m → Joins (role_marks rows) n out
  joining_end m out g e = record {
    member = λ j. (λ p. let w = (g.member j).0 p in (w.0, w.1, w.2, w.4), λ w. (g.member j).1 (w.0, w.1, w.2, e w.0, w.3));
  }

-- the rows below i are joined
pub record RaisedBelow (rows above out : List RoleSet) (i : ℕ) : Type 0 where
  pub long : length out ≡ role_width
  pub at : (p : ℕ) → p < i → Joins (role_marks rows) (get_or above p no_roles).0 (get_or out p no_roles).0

module _ (rows above : List RoleSet) where
  pub raised_start : RaisedBelow rows above (replicate role_width no_roles) 0
  raised_start = record { long = length-replicate {A = RoleSet} role_width no_roles; at = λ p l. absurd (omega arith) }

  pub raised_more : (out : List RoleSet) (i : ℕ) (x : RoleSet) → RaisedBelow rows above out i → i < role_width
      → Joins (role_marks rows) (get_or above i no_roles).0 x.0
      → RaisedBelow rows above (set out i x) (i + 1)
  raised_more out i x w h j = record { long = length-set out i x ∙ w.long; at = λ p l. by p l (ℕ_discrete p i) }
    where
      by : (p : ℕ) → p < i + 1 → Dec (p ≡ i) → Joins (role_marks rows) (get_or above p no_roles).0 (get_or (set out i x) p no_roles).0
      by p l (yes e) = rw (e, get_or-set_same out i x no_roles (let g = w.long in omega arith)) j
      by p l (no ne) = rw (get_or-set_other out i p x no_roles ne) (w.at p (omega arith))

  pub raised_end : (out : List RoleSet) (i : ℕ) → RaisedBelow rows above out i → role_width ≤ i
      → Raises (role_marks rows) (role_marks above) (role_marks out)
  raised_end out i w h = record {
    at = λ p j hp hj.
        let s = (w.at p (omega arith)).member j in
        let f = has_fact (get_or out p no_roles).0 j in (
          λ q. let v = s.0 (f.0 q) in (v.0, v.1, (has_fact (get_or above p no_roles).0 v.0).1 v.2, v.3),
          λ v. f.1 (s.1 (v.0, v.1, (has_fact (get_or above p no_roles).0 v.0).0 v.2, v.3)),
        );
  }

-- what is marked both ways is what the table lists, one way or the other
sides-listed : (table : List ℕ) (i j : ℕ) → i < role_width → IsTrue (role_marks (replicate role_width no_roles) i j) ⊎ SidesListed table i j
    → Listed table i j ⊎ Listed table j i
sides-listed table i j h (inl p) = absurd (blank_roles role_width i j h p)
sides-listed table i j h (inr (k, l, inl (e, f))) = inl (k, l, (e, f))
sides-listed table i j h (inr (k, l, inr (e, f))) = inr (k, l, (f, e))

listed-sides : (table : List ℕ) (i j : ℕ) → Listed table i j ⊎ Listed table j i → SidesListed table i j
listed-sides table i j (inl (k, l, (e, f))) = (k, l, inl (e, f))
listed-sides table i j (inr (k, l, (e, f))) = (k, l, inr (f, e))

-- what is excluded from something above each role
pub excludes : (table : List ℕ) (m roles r : ℕ → ℕ → Bool)
    → Adds role_width role_width (role_marks (replicate role_width no_roles)) (SidesListed table) m
    → Raises m roles r → Excludes table roles r
excludes table m roles r a u = record {
  at = λ p j hp hj.
      test-same (u.at p j hp hj)
      (λ v. record { by = v.0; row = v.1; above = v.2; sides = sides-listed table v.0 j v.1 ((a.at v.0 j v.1 hj).0 v.3) })
      (λ b. (b.by, b.row, b.above, (a.at b.by j b.row hj).1 (inr (listed-sides table b.by j b.sides))));
}

-- ---- what is broken

pub are_met : (x y : ℕ) (b : Bool) → IsTrue b ↔ Meets x y → x < 2 ^ 64 → IsTrue b ↔ AreMet (has x) (has y)
are_met x y b s h = (
  λ e. let w = s.0 e in
      record {
        role = w.0;
        within = low w.0 w.1 (dec_lt w.0 role_width);
        left = (has_fact x w.0).1 w.1;
        right = (has_fact y w.0).1 w.2;
      },
  λ m. s.1 (m.role, (has_fact x m.role).0 m.left, (has_fact y m.role).0 m.right),
)
  where
    low : (i : ℕ) → Has x i → Dec (i < role_width) → i < role_width
    low i p (yes l) = l
    low i p (no g) = let z = bit_at_above x role_width i h (omega arith) in absurd (omega arith)

-- P holds of j, and of what j is excluded from
pub excluded_sides : (table : List ℕ) (roles : ℕ → ℕ → Bool) (P : ℕ → Type 0) (r j : ℕ) → IsExcluded table roles r j → j < role_width
    → ((i : ℕ) → IsTrue (roles r i) → P i) → P j
    → BothSides role_width table P
excluded_sides table roles P r j w h above p = side w.sides
  where
    side : Listed table w.by j ⊎ Listed table j w.by → BothSides role_width table P
    side (inl l) = record
        { left = w.by; right = j; left_row = w.row; right_row = h; listed = l; has_left = above w.by w.above; has_right = p }
    side (inr l) = record
        { left = j; right = w.by; left_row = h; right_row = w.row; listed = l; has_left = p; has_right = above w.by w.above }

pub role_broken : (table : List ℕ) (roles excluded : ℕ → ℕ → Bool) (r : ℕ) (b : Bool) → Excludes table roles excluded → r < role_width
    → IsTrue b ↔ AreMet (excluded r) (roles r)
    → IsTrue b ↔ HaveBothSides role_width table (roles r)
role_broken table roles excluded r b a h e = test-same e to from
  where
    to : AreMet (excluded r) (roles r) → HaveBothSides role_width table (roles r)
    to m = record {
      sides = excluded_sides table roles (Marked (roles r)) r m.role ((a.at r m.role h m.within).0 m.left) m.within
          (λ i p. p) m.right;
    }

    from : HaveBothSides role_width table (roles r) → AreMet (excluded r) (roles r)
    from w = let x = w.sides in record {
      role = x.right;
      within = x.right_row;
      left = (a.at r x.right h x.right_row).1 (record { by = x.left; row = x.left_row; above = x.has_left; sides = inl x.listed });
      right = x.has_right;
    }

-- ---- which roles are concerned

pub union_none : (rows : ℕ → ℕ → Bool) → IsUnionBelow rows 0 0
union_none rows = record { member = λ j. let z = bit_at-zero j in (λ p. absurd (omega arith), λ w. let l = w.1 in absurd (omega arith)) }

pub union_more : (rows : List RoleSet) (n old new : ℕ) → IsUnionBelow (role_marks rows) n old → IsUnion old (get_or rows n no_roles).0 new
    → IsUnionBelow (role_marks rows) (n + 1) new
union_more rows n old new g u = record {
  member = λ j. (
    λ p.
        ⊎_elim (λ q. let w = (g.member j).0 q in let h = w.1 in (w.0, omega arith, w.2))
        (λ q. (n, omega arith, (has_fact (get_or rows n no_roles).0 j).1 q)) ((u.member j).0 p),
    λ w. (u.member j).1 (side j w.0 w.1 w.2 (ℕ_discrete w.0 n)),
  );
}
  where
    side : (j i : ℕ) → i < n + 1 → IsTrue (role_marks rows i j) → Dec (i ≡ n) → Has old j ⊎ Has (get_or rows n no_roles).0 j
    side j i l p (yes e) = inr ((has_fact (get_or rows n no_roles).0 j).0 (rw e at p))
    side j i l p (no ne) = inl ((g.member j).1 (i, omega arith, p))

-- the set has those of the first n roles from which a member of another set follows
pub record ConcernedBelow (above : List RoleSet) (sides n set : ℕ) : Type 0 where
  pub member : (r : ℕ) → Has set r ↔ ((r < n) × AreMet (role_marks above r) (has sides))

pub concerned_none : (above : List RoleSet) (sides : ℕ) → ConcernedBelow above sides 0 0
concerned_none above sides = record
    { member = λ r. let z = bit_at-zero r in (λ p. absurd (omega arith), λ w. let l = w.0 in absurd (omega arith)) }

pub concerned_more : (above : List RoleSet) (sides n old new : ℕ) (b : Bool) → ConcernedBelow above sides n old → n < role_width
    → IsTrue b ↔ AreMet (role_marks above n) (has sides) → InsertsIf role_width old n b new → ConcernedBelow above sides (n + 1) new
concerned_more above sides n old new b c l e i = record { member = λ r. (to r, λ w. from r w (ℕ_discrete r n)) }
  where
    to : (r : ℕ) → Has new r → (r < n + 1) × AreMet (role_marks above r) (has sides)
    to r p =
        ⊎_elim (λ q. let w = (c.member r).0 q in let h = w.0 in (omega arith, w.1)) (λ q. let f = q.0 in (omega arith, rw f (e.0 q.2)))
        ((i.member r).0 p)

    from : (r : ℕ) → (r < n + 1) × AreMet (role_marks above r) (has sides) → Dec (r ≡ n) → Has new r
    from r w (yes f) = (i.member r).1 (inr (f, l, e.1 (rw f at w.1)))
    from r w (no ne) = (i.member r).1 (inl ((c.member r).1 (let h = w.0 in omega arith, w.1)))

-- the members of that set are the sides of exclusions
pub concerned_end : (table : List ℕ) (above : List RoleSet) (m : ℕ → ℕ → Bool) (sides n set : ℕ)
    → Adds role_width role_width (role_marks (replicate role_width no_roles)) (SidesListed table) m → IsUnionBelow m role_width sides
    → ConcernedBelow above sides n set → n ≡ role_width → AreConcerned table (role_marks above) set
concerned_end table above m sides n set a u c e = record { member = λ r. (to r, from r) }
  where
    to : (r : ℕ) → Has set r → IsConcerned table (role_marks above) r
    to r p =
        let w = (c.member r).0 p in
        let s = (u.member w.1.role).0 ((has_fact sides w.1.role).0 w.1.right) in
        record {
          within = let l = w.0 in omega arith;
          from = s.0;
          row = s.1;
          excluded = record {
            by = w.1.role;
            row = w.1.within;
            above = w.1.left;
            sides = ⊎_elim (λ l. inr l) (λ l. inl l) (sides-listed table s.0 w.1.role s.1 ((a.at s.0 w.1.role s.1 w.1.within).0 s.2));
          };
        }

    from : (r : ℕ) → IsConcerned table (role_marks above) r → Has set r
    from r w =
        let x = w.excluded in
        let h = w.within in
        let s = (a.at w.from x.by w.row x.row).1 (inr (listed-sides table w.from x.by (⊎_elim (λ l. inr l) (λ l. inl l) x.sides))) in
        (c.member r).1 (
          omega arith,
          record { role = x.by; within = x.row; left = x.above; right = (has_fact sides x.by).1 ((u.member x.by).1 (w.from, w.row, s)) },
        )
