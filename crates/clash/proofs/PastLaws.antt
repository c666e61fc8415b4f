-- The facts of a table that has more of them than a list of edges holds, one after another, and what the list says of one that has not.
use Rattle.std.specs.Prelude.{ℕ, ◌≡◌, refl, ◌+◌, ◌/◌, ◌≤◌, ◌<◌, ◌⊎◌, ◌↔◌, IsTrue, Bool, true, false, List, length, replicate}
use Rattle.std.specs.Int.{bit_at}
use Rattle.std.proofs.Common.{sym, ◌∙◌, ap, arith, inl, inr}
use Rattle.std.proofs.Math.Decide.{ℕ_discrete}
use Rattle.std.proofs.lemmas.Bool.{false≢true}
use Rattle.kinds.specs.declared.SignedRole.{SignedRole}
use Rattle.kinds.specs.Kinds.{most_individuals, most_roles, forward, backward}
use Rattle.laws.specs.Truth.{test-same}
use Rattle.meaning.specs.Lent.{role_fact_width}
use Rattle.sets.specs.Bits.{role_width}
use Rattle.sets.specs.Rows.{Adds, role_marks, no_roles}
use Rattle.sets.specs.declared.roles.RoleSet.{RoleSet}
use Rattle.tables.specs.declared.records.RoleFact.{RoleFact}
use Rattle.tables.specs.Records.{read_role_fact}
use Rattle.edges.specs.declared.FactEdge.{FactEdge}
use Rattle.edges.specs.Edges.{along, back_along, is_in_range, IsInRange, MakesEdge, at_first, at_second, HasEdge}
use Rattle.edges.specs.Meant.{AreFew}
use Rattle.edges.proofs.EdgeLaws.{range_shown, range_tested}
use Rattle.clash.specs.Clashes.{SomeBelow, IsMade, HasMade, HasAny, PairHas, PairClashes}
use Rattle.clash.specs.Conflicts.{Excludes}
use Rattle.clash.specs.Tried.{Tried, IsOwn, ByEdgeWhere, MetWhere}
use Rattle.clash.proofs.SeekLaws.{sides_same}
use Rattle.clash.proofs.TriedLaws.{tried_start, tried_same, tried_here, tried_more, tried_end}

-- the numbers of an edge are in range
module _ (facts : List ℕ) (n a : ℕ) (edge : FactEdge) where
  pub made-role : IsMade facts n a edge → edge.role.0 < role_width
  made-role h = by h.makes
    where
      by : MakesEdge (read_role_fact facts h.fact) a edge → edge.role.0 < role_width
      by (at_first p q) = let r = h.rows.role in rw q (omega arith)
      by (at_second p q) = let r = h.rows.role in rw q (omega arith)

  pub made-to : IsMade facts n a edge → edge.to.0 < most_individuals
  made-to h = by h.makes
    where
      by : MakesEdge (read_role_fact facts h.fact) a edge → edge.to.0 < most_individuals
      by (at_first p q) = rw q h.rows.second
      by (at_second p q) = rw q h.rows.first

  pub made-from : IsMade facts n a edge → a < most_individuals
  made-from h = by h.makes
    where
      by : MakesEdge (read_role_fact facts h.fact) a edge → a < most_individuals
      by (at_first p q) = rw p h.rows.first
      by (at_second p q) = rw p h.rows.second

-- ---- a table whose facts are all in the list

module _ (facts : List ℕ) (among : ℕ) (few : AreFew facts) where
  listed-any : (a : ℕ) (e : FactEdge) → HasEdge facts among a e → HasAny facts among a e
  listed-any a e h = record {
    is = record { fact = h.is.fact; before = let r = h.is.read in omega arith; rows = h.is.rows; makes = h.is.makes };
    member = h.member;
  }

  any-listed : (a : ℕ) (e : FactEdge) → HasAny facts among a e → HasEdge facts among a e
  any-listed a e h = record {
    is = record { fact = h.is.fact; read = let r = h.is.before in omega (arith, few); rows = h.is.rows; makes = h.is.makes };
    member = h.member;
  }

-- what the edges of E give, those of F give, too
pairs-same : (table : List ℕ) (E F : ℕ → FactEdge → Type 0) (roles : ℕ → ℕ → Bool) (w : ℕ)
    → ((a : ℕ) (e : FactEdge) → E a e → F a e)
    → SomeBelow w (PairClashes table E roles) → SomeBelow w (PairClashes table F roles)
pairs-same table E F roles w to x = record {
  one = x.one;
  within = x.within;
  has = record {
    to = x.has.to;
    sides = sides_same role_width table (PairHas (E x.one) roles x.has.to) (PairHas (F x.one) roles x.has.to)
        (λ i j hi hj l f. record { edge = f.edge; has = to x.one f.edge f.has; to = f.to; follows = f.follows }) x.has.sides;
  };
}

-- a test of what the list gives is one of what all facts give
pub by_list : (table facts : List ℕ) (among : ℕ) (roles : ℕ → ℕ → Bool) (w : ℕ) (b : Bool)
    → AreFew facts
    → IsTrue b ↔ SomeBelow w (PairClashes table (HasEdge facts among) roles)
    → IsTrue b ↔ SomeBelow w (PairClashes table (HasAny facts among) roles)
by_list table facts among roles w b few t =
    test-same t (pairs-same table (HasEdge facts among) (HasAny facts among) roles w (listed-any facts among few))
    (pairs-same table (HasAny facts among) (HasEdge facts among) roles w (any-listed facts among few))

-- ---- one fact more

-- the two edges of a fact, as code makes them
pub along-made : (fact : RoleFact) (r : SignedRole) → is_in_range fact ≡ true → (fact.role.0 < most_roles → r ≡ forward fact.role)
    → record { role = r; to = fact.second } ≡ along fact
along-made fact r rows e =
    let edge : SignedRole → FactEdge = λ x. record { role = x; to = fact.second } in ap edge (e (range_shown fact rows).role)

pub back-made : (fact : RoleFact) (r : SignedRole) → is_in_range fact ≡ true → (fact.role.0 < most_roles → r ≡ backward fact.role)
    → record { role = r; to = fact.first } ≡ back_along fact
back-made fact r rows e =
    let edge : SignedRole → FactEdge = λ x. record { role = x; to = fact.first } in ap edge (e (range_shown fact rows).role)

module _ (facts : List ℕ) (among a : ℕ) where
  pub none_made : (e : FactEdge) → HasMade facts 0 among a e → ⊥
  none_made e h = let l = h.is.before in absurd (omega arith)

  later : (k n : ℕ) → k ≤ n → (e : FactEdge) → HasMade facts k among a e → HasMade facts n among a e
  later k n l e h = record {
    is = record { fact = h.is.fact; before = let b = h.is.before in omega arith; rows = h.is.rows; makes = h.is.makes };
    member = h.member;
  }

  -- an edge of one fact more is one of those before, or that fact makes it
  module _ (k : ℕ) where
    last : {A : Type 0} (e : FactEdge) → (h : HasMade facts (k + 1) among a e) → (HasMade facts k among a e → A)
        → (IsInRange (read_role_fact facts k) → MakesEdge (read_role_fact facts k) a e → A) → A
    last {A} e h before here = side (ℕ_discrete h.is.fact k)
      where
        side : Dec (h.is.fact ≡ k) → A
        side (yes q) = here (let r = h.is.rows in rw q at r) (let m = h.is.makes in rw q at m)
        side (no ne) = before (record {
          is = record { fact = h.is.fact; before = let l = h.is.before in omega (arith, ne); rows = h.is.rows; makes = h.is.makes };
          member = h.member;
        })

    -- where a number of it is out of range it makes none
    pub made_none : (table : List ℕ) (roles : ℕ → ℕ → Bool) (met : List RoleSet) → is_in_range (read_role_fact facts k) ≡ false
        → Tried table roles (HasMade facts k among a) met → Tried table roles (HasMade facts (k + 1) among a) met
    made_none table roles met out t =
        tried_same table roles (HasMade facts k among a) (HasMade facts (k + 1) among a) met (later k (k + 1) (omega arith))
        (λ e h. last e h (λ g. g) (λ r m. absurd (false≢true (sym out ∙ range_tested (read_role_fact facts k) r)))) t

    -- both edges of it: first the one along it
    module _ (fact : RoleFact) (is : fact ≡ read_role_fact facts k) (rows : is_in_range fact ≡ true) (ahead : FactEdge)
        (is-ahead : ahead ≡ along fact) where
      r : IsInRange fact
      r = range_shown fact rows

      abbrev Ahead : Type 0
      Ahead = IsOwn among a fact.first.0 ahead

      abbrev Midway : FactEdge → Type 0
      Midway e = HasMade facts k among a e ⊎ (Ahead × (ahead ≡ e))

      made-midway : (n : ℕ) → k < n → (e : FactEdge) → Midway e → HasMade facts n among a e
      made-midway n l e (inl g) = later k n (omega arith) e g
      made-midway n l e (inr (o, q)) =
          let m : MakesEdge fact a e = at_first o.same (sym q ∙ is-ahead) in
          record {
            is = record { fact = k; before = l; rows = rw is at r; makes = rw is at m };
            member = ap (λ (x : FactEdge). bit_at among x.role.0) (sym q) ∙ o.member;
          }

      role-ahead : ahead.role.0 < role_width
      role-ahead = let l = r.role in rw is-ahead (omega arith)

      module _ (table : List ℕ) (roles excluded : ℕ → ℕ → Bool) (met mid : List RoleSet)
          (h : k < length facts / role_fact_width) (t : Tried table roles (HasMade facts k among a) met) (c : Excludes table roles excluded)
          (x : Adds most_individuals role_width (role_marks met) (ByEdgeWhere (IsOwn among a fact.first.0 ahead) roles ahead)
          (role_marks mid)) where
        pub ahead_here : MetWhere (IsOwn among a fact.first.0 ahead) excluded (role_marks mid) ahead
            → PairClashes table (HasAny facts among) roles a
        ahead_here m =
            tried_here table roles Ahead (HasMade facts k among a) Midway ahead met mid excluded t c role-ahead (λ e g. inl g)
            (λ o. inr (o, refl)) (λ e m. m) x (HasAny facts among) a (made-midway (length facts / role_fact_width) h)
            (let l = r.second in rw is-ahead l) m

        -- then the one back
        module _ (behind : FactEdge) (is-behind : behind ≡ back_along fact) (new : List RoleSet) (l : length mid ≡ most_individuals)
            (never : MetWhere (IsOwn among a fact.first.0 ahead) excluded (role_marks mid) ahead → ⊥)
            (y : Adds most_individuals role_width (role_marks mid) (ByEdgeWhere (IsOwn among a fact.second.0 behind) roles behind)
            (role_marks new)) where
          abbrev Behind : Type 0
          Behind = IsOwn among a fact.second.0 behind

          made-behind : Behind → HasMade facts (k + 1) among a behind
          made-behind o =
              let m : MakesEdge fact a behind = at_second o.same is-behind in
              record { is = record { fact = k; before = omega arith; rows = rw is at r; makes = rw is at m }; member = o.member }

          split : (e : FactEdge) → HasMade facts (k + 1) among a e → Midway e ⊎ (Behind × (behind ≡ e))
          split e g = last e g (λ b. inl (inl b)) (λ s m. by (rw (← is) at m))
            where
              by : MakesEdge fact a e → Midway e ⊎ (Behind × (behind ≡ e))
              by (at_first p q) =
                  let w : ahead ≡ e = is-ahead ∙ sym q in
                  inl (inr (record { same = p; member = ap (λ (x : FactEdge). bit_at among x.role.0) w ∙ g.member }, w))
              by (at_second p q) =
                  let w : behind ≡ e = is-behind ∙ sym q in
                  inr (record { same = p; member = ap (λ (x : FactEdge). bit_at among x.role.0) w ∙ g.member }, w)

          role-behind : behind.role.0 < role_width
          role-behind = let l = r.role in rw is-behind (omega arith)

          midway : Tried table roles Midway mid
          midway =
              tried_more table roles Ahead (HasMade facts k among a) Midway ahead met mid excluded t c role-ahead (λ e g. inl g)
              (λ o. inr (o, refl)) (λ e m. m) x l never

          pub behind_here : MetWhere (IsOwn among a fact.second.0 behind) excluded (role_marks new) behind
              → PairClashes table (HasAny facts among) roles a
          behind_here m =
              tried_here table roles Behind Midway (HasMade facts (k + 1) among a) behind mid new excluded midway c role-behind
              (made-midway (k + 1) (omega arith)) made-behind split y (HasAny facts among) a
              (later (k + 1) (length facts / role_fact_width) (omega (arith, h))) (let l = r.first in rw is-behind l) m

          pub fact_more : length new ≡ most_individuals
              → (MetWhere (IsOwn among a fact.second.0 behind) excluded (role_marks new) behind → ⊥)
              → Tried table roles (HasMade facts (k + 1) among a) new
          fact_more l' never' =
              tried_more table roles Behind Midway (HasMade facts (k + 1) among a) behind mid new excluded midway c role-behind
              (made-midway (k + 1) (omega arith)) made-behind split y l' never'

-- ---- all facts

module _ (table facts : List ℕ) (among : ℕ) (roles : ℕ → ℕ → Bool) (a : ℕ) where
  pub facts_start : Tried table roles (HasMade facts 0 among a) (replicate most_individuals no_roles)
  facts_start = tried_start table roles (HasMade facts 0 among a) (none_made facts among a)

  -- how many whole records the table has
  abbrev many : ℕ
  many = length facts / role_fact_width

  pub facts_end : (k : ℕ) (met : List RoleSet) → many ≤ k → Tried table roles (HasMade facts k among a) met
      → PairClashes table (HasAny facts among) roles a → ⊥
  facts_end k met l t =
      tried_end table roles (HasAny facts among) a (HasMade facts k among a) met (λ e h. made-to facts many a e h.is)
      (later facts among a many k l) t
