-- The edges of an individual, one after another: the unions of what they have, and the roles of its pairs so far.
use Rattle.std.specs.Prelude.{ℕ, ⊤, ◌≡◌, refl, ◌<◌, ◌⊎◌, ◌↔◌, IsTrue, Bool, List, [], ◌∷◌, ◌++◌, length, get_or, replicate, Contains}
use Rattle.std.proofs.Common.{sym, ◌∙◌, ap, arith, inl, inr, ⊎_elim}
use Rattle.std.proofs.lemmas.List.{length-replicate}
use Rattle.std.proofs.lemmas.List.Elements.{Contains-append_left, Contains-push, Contains-push_cases}
use Rattle.kinds.specs.Kinds.{most_individuals}
use Rattle.sets.specs.Bits.{role_width, has, Has, IsUnion}
use Rattle.sets.specs.Rows.{Adds, role_marks, no_roles}
use Rattle.sets.specs.declared.roles.RoleSet.{RoleSet}
use Rattle.sets.proofs.RowLaws.{has_fact, adds_same}
use Rattle.edges.specs.declared.FactEdge.{FactEdge}
use Rattle.edges.specs.Edges.{HasEdge}
use Rattle.edges.proofs.EdgeLaws.{edge-role, edge-to}
use Rattle.edges.proofs.GivenLaws.{Goes, given-made, given-all}
use Rattle.clash.specs.Clashes.{BothSides, Marked, PairHas, PairClashes}
use Rattle.clash.specs.Conflicts.{IsExcluded, Excludes, AreMet, ByEdge}
use Rattle.clash.specs.Tried.{Tried, ByEdgeWhere, MetWhere}
use Rattle.clash.proofs.SeekLaws.{sides_same}
use Rattle.clash.proofs.RoleLaws.{blank_roles, excluded_sides}

none_given : (edge : FactEdge) → Contains [] edge → ⊥
none_given edge m = let l = m.1 in absurd (omega arith)

-- ---- unions

-- the set has what the rows of the roles of the edges have
pub record Gathers (rows : List RoleSet) (given : List FactEdge) (set : ℕ) : Type 0 where
  pub has : (edge : FactEdge) → Contains given edge → (S : ℕ) → Has (get_or rows edge.role.0 no_roles).0 S → Has set S

pub gathers_more : (rows : List RoleSet) (given : List FactEdge) (edge : FactEdge) (old new : ℕ) → Gathers rows given old
    → IsUnion old (get_or rows edge.role.0 no_roles).0 new → Gathers rows (given ++ edge ∷ []) new
gathers_more rows given edge old new g u = record {
  has = λ e m S p.
      (u.member S).1 (⊎_elim (λ q. inl (g.has e q S p)) (λ q. inr (rw (← q) at p)) (Contains-push_cases given edge e m));
}

module _ (table facts : List ℕ) (among : ℕ) (above excluded : List RoleSet) (a : ℕ)
    (c : Excludes table (role_marks above) (role_marks excluded)) where
  -- where some pair has both sides, the unions over all edges meet
  pub unions_meet : (given left : List FactEdge) (follow exclude : ℕ) → Goes facts among a given left → left ≡ []
      → Gathers above given follow
      → Gathers excluded given exclude → PairClashes table (HasEdge facts among) (role_marks above) a → AreMet (has exclude) (has follow)
  unions_meet given left follow exclude g e f x w =
      let l = w.sides.has_left in
      let r = w.sides.has_right in
      let row = edge-role facts a l.edge l.has.is in
      let b = (c.at l.edge.role.0 w.sides.right row w.sides.right_row).1
      (record { by = w.sides.left; row = w.sides.left_row; above = l.follows; sides = inl w.sides.listed }) in
      record {
        role = w.sides.right;
        within = w.sides.right_row;
        left = (has_fact exclude w.sides.right).1
            (x.has l.edge (given-all facts among a given left g e l.edge l.has) w.sides.right
            ((has_fact (get_or excluded l.edge.role.0 no_roles).0 w.sides.right).0 b));
        right = (has_fact follow w.sides.right).1
            (f.has r.edge (given-all facts among a given left g e r.edge r.has) w.sides.right
            ((has_fact (get_or above r.edge.role.0 no_roles).0 w.sides.right).0 r.follows));
      }

-- ---- pairs

module _ (table : List ℕ) (roles : ℕ → ℕ → Bool) where
  -- before the first edge no pair has a role
  pub tried_start : (G : FactEdge → Type 0) → ((e : FactEdge) → G e → ⊥) → Tried table roles G (replicate most_individuals no_roles)
  tried_start G none = record {
    long = length-replicate {A = RoleSet} most_individuals no_roles;
    marks = λ b S hb hS. (λ p. absurd (blank_roles most_individuals b S hb p), λ w. absurd (none w.edge w.has));
    whole = λ b hb x. blank_roles most_individuals b x.left hb x.has_left;
  }

  -- the same edges, said otherwise
  pub tried_same : (G H : FactEdge → Type 0) (met : List RoleSet) → ((e : FactEdge) → G e → H e) → ((e : FactEdge) → H e → G e)
      → Tried table roles G met → Tried table roles H met
  tried_same G H met to from t = record {
    long = t.long;
    marks = λ b S hb hS. (
      λ p.
          let w = (t.marks b S hb hS).0 p in
          record { edge = w.edge; has = to w.edge w.has; to = w.to; follows = w.follows },
      λ w. (t.marks b S hb hS).1 (record { edge = w.edge; has = from w.edge w.has; to = w.to; follows = w.follows }),
    );
    whole = t.whole;
  }

  -- past the last one none has both sides
  pub tried_end : (E : ℕ → FactEdge → Type 0) (a : ℕ) (G : FactEdge → Type 0) (met : List RoleSet)
      → ((e : FactEdge) → E a e → e.to.0 < most_individuals) → ((e : FactEdge) → E a e → G e)
      → Tried table roles G met
      → PairClashes table E roles a → ⊥
  tried_end E a G met to_row all t w =
      t.whole w.to (row w.sides.has_left)
      (sides_same role_width table _ (Marked (role_marks met w.to)) (λ i j hi hj l f. mark i hi f) w.sides)
    where
      row : {S : ℕ} → PairHas (E a) roles w.to S → w.to < most_individuals
      row f = let e = f.to in let l = to_row f.edge f.has in omega arith

      mark : (S : ℕ) → S < role_width → PairHas (E a) roles w.to S → IsTrue (role_marks met w.to S)
      mark S h f =
          (t.marks w.to S (row f) h).1 (record { edge = f.edge; has = all f.edge f.has; to = f.to; follows = f.follows })

  -- one edge more, where O holds
  module _ (O : Type 0) (G H : FactEdge → Type 0) (edge : FactEdge) (met new : List RoleSet) (excluded : ℕ → ℕ → Bool)
      (t : Tried table roles G met) (c : Excludes table roles excluded) (role_row : edge.role.0 < role_width)
      (kept : (e : FactEdge) → G e → H e) (put : O → H edge) (from : (e : FactEdge) → H e → G e ⊎ (O × (edge ≡ e)))
      (x : Adds most_individuals role_width (role_marks met) (ByEdgeWhere O roles edge) (role_marks new)) where
    marks : (b S : ℕ) → b < most_individuals → S < role_width → IsTrue (role_marks new b S) ↔ PairHas H roles b S
    marks b S hb hS = (
      λ p.
          ⊎_elim
          (λ q.
          let w = (t.marks b S hb hS).0 q in
          record { edge = w.edge; has = kept w.edge w.has; to = w.to; follows = w.follows })
          (λ q. record { edge = edge; has = put q.on; to = sym q.by.same; follows = q.by.follows }) ((x.at b S hb hS).0 p),
      λ w.
          (x.at b S hb hS).1
          (⊎_elim (λ q. inl ((t.marks b S hb hS).1 (record { edge = w.edge; has = q; to = w.to; follows = w.follows })))
          (λ q. inr (record {
            on = q.0;
            by = record {
              same = sym (ap (λ (e : FactEdge). e.to.0) q.1 ∙ w.to);
              follows = let m = w.follows in rw (← q.1) at m;
            };
          }))
          (from w.edge w.has)),
    )

    -- a role of its pair that is excluded from what follows from its own
    pub tried_here : (E : ℕ → FactEdge → Type 0) (a : ℕ) → ((e : FactEdge) → H e → E a e) → edge.to.0 < most_individuals
        → MetWhere O excluded (role_marks new) edge
        → PairClashes table E roles a
    tried_here E a made to_row m = record {
      to = edge.to.0;
      sides = excluded_sides table roles (PairHas (E a) roles edge.to.0) edge.role.0 m.are.role
          ((c.at edge.role.0 m.are.role role_row m.are.within).0 m.are.left) m.are.within
          (λ S p. record { edge = edge; has = made edge (put m.on); to = refl; follows = p })
          (let w = (marks edge.to.0 m.are.role to_row m.are.within).0 m.are.right in
          record { edge = w.edge; has = made w.edge w.has; to = w.to; follows = w.follows });
    }

    -- where there is none
    pub tried_more : length new ≡ most_individuals → (MetWhere O excluded (role_marks new) edge → ⊥) → Tried table roles H new
    tried_more l never = record {
      long = l;
      marks = marks;
      whole = λ b hb y. side b hb y ((x.at b y.left hb y.left_row).0 y.has_left) ((x.at b y.right hb y.right_row).0 y.has_right);
    }
      where
        -- one side follows from the role of the edge
        meets : (b i j : ℕ) → j < role_width → IsExcluded table roles edge.role.0 j → ByEdgeWhere O roles edge b i
            → IsTrue (role_marks new b j) → ⊥
        meets b i j hj w h p =
            let e = h.by.same in
            never (record {
              on = h.on;
              are = record { role = j; within = hj; left = (c.at edge.role.0 j role_row hj).1 w; right = rw e at p };
            })

        side : (b : ℕ) → b < most_individuals → (y : BothSides role_width table (Marked (role_marks new b)))
            → IsTrue (role_marks met b y.left) ⊎ ByEdgeWhere O roles edge b y.left
            → IsTrue (role_marks met b y.right) ⊎ ByEdgeWhere O roles edge b y.right → ⊥
        side b hb y (inl p) (inl q) =
            t.whole b hb (record {
              left = y.left;
              right = y.right;
              left_row = y.left_row;
              right_row = y.right_row;
              listed = y.listed;
              has_left = p;
              has_right = q;
            })
        side b hb y (inr p) q = meets b y.left y.right y.right_row
            (record { by = y.left; row = y.left_row; above = p.by.follows; sides = inl y.listed }) p y.has_right
        side b hb y (inl p) (inr q) = meets b y.right y.left y.left_row
            (record { by = y.right; row = y.right_row; above = q.by.follows; sides = inr y.listed }) q y.has_left

-- ---- the edges of a list

pub listed_start : (table : List ℕ) (roles : ℕ → ℕ → Bool) → Tried table roles (Contains []) (replicate most_individuals no_roles)
listed_start table roles = tried_start table roles (Contains []) none_given

module _ (table facts : List ℕ) (among : ℕ) (roles : ℕ → ℕ → Bool) (a : ℕ) where
  pub listed_end : (given left : List FactEdge) (met : List RoleSet) → Goes facts among a given left → left ≡ []
      → Tried table roles (Contains given) met
      → PairClashes table (HasEdge facts among) roles a → ⊥
  listed_end given left met g e t =
      tried_end table roles (HasEdge facts among) a (Contains given) met (λ x h. edge-to facts a x h.is)
      (given-all facts among a given left g e) t

  -- one edge more
  module _ (given after : List FactEdge) (edge : FactEdge) (met new : List RoleSet) (excluded : ℕ → ℕ → Bool)
      (t : Tried table roles (Contains given) met)
      (g : Goes facts among a (given ++ edge ∷ []) after) (c : Excludes table roles excluded)
      (x : Adds most_individuals role_width (role_marks met) (ByEdge roles edge) (role_marks new)) where
    made : (e : FactEdge) → Contains (given ++ edge ∷ []) e → HasEdge facts among a e
    made e m = given-made facts among a (given ++ edge ∷ []) after g e m

    is : HasEdge facts among a edge
    is = made edge (Contains-push given edge)

    role : edge.role.0 < role_width
    role = edge-role facts a edge is.is

    -- the edges that were given, and those with this one
    abbrev Given : FactEdge → Type 0
    Given = Contains given

    abbrev WithThis : FactEdge → Type 0
    WithThis = Contains (given ++ edge ∷ [])

    kept : (e : FactEdge) → Contains given e → Contains (given ++ edge ∷ []) e
    kept e m = Contains-append_left given (edge ∷ []) e m

    from : (e : FactEdge) → Contains (given ++ edge ∷ []) e → Contains given e ⊎ (⊤ × (edge ≡ e))
    from e m = ⊎_elim (λ q. inl q) (λ q. inr (tt, q)) (Contains-push_cases given edge e m)

    always : Adds most_individuals role_width (role_marks met) (ByEdgeWhere ⊤ roles edge) (role_marks new)
    always = adds_same most_individuals role_width (role_marks met) (ByEdge roles edge) (ByEdgeWhere ⊤ roles edge) (role_marks new) x
        (λ b S hb hS p. record { on = tt; by = p }) (λ b S hb hS p. p.by)

    pub listed_here : AreMet (excluded edge.role.0) (role_marks new edge.to.0) → PairClashes table (HasEdge facts among) roles a
    listed_here m =
        tried_here table roles ⊤ Given WithThis edge met new excluded t c role kept
        (λ o. Contains-push given edge) from always (HasEdge facts among) a made (edge-to facts a edge is.is) (record { on = tt; are = m })

    pub listed_more : length new ≡ most_individuals → (AreMet (excluded edge.role.0) (role_marks new edge.to.0) → ⊥)
        → Tried table roles (Contains (given ++ edge ∷ [])) new
    listed_more l never =
        tried_more table roles ⊤ Given WithThis edge met new excluded t c role kept
        (λ o. Contains-push given edge) from always l (λ m. never m.are)
