-- Which edges an individual has: those that facts make, and no others.
use Rattle.std.specs.Prelude.{ℕ, zero, suc, ◌≡◌, refl, ◌<◌, ◌≤◌, ◌⊎◌, ◌↔◌, Bool, true, false, List, [], ◌∷◌, Contains}
use Rattle.std.specs.Int.{bit_at}
use Rattle.std.proofs.Common.{sym, ◌∙◌, ap, inl, inr, ⊎_elim, arith, rules, tests}
use Rattle.std.proofs.Math.Decide.{ℕ_discrete}
use Rattle.std.proofs.lemmas.List.Elements.{Contains-append_left, Contains-push}
use Rattle.kinds.specs.Kinds.{most_individuals}
use Rattle.sets.specs.Bits.{Has, IsEmpty, role_width}
use Rattle.tables.specs.declared.records.RoleFact.{RoleFact}
use Rattle.tables.specs.Records.{read_role_fact}
use Rattle.edges.specs.declared.FactEdge.{FactEdge}
use Rattle.edges.specs.Edges.{facts_read, along, back_along, is_in_range, with_edge, IsInRange, MakesEdge, at_first, at_second}
use Rattle.edges.specs.Edges.{IsFactEdge, HasEdge, edges_of_first, edges_at}
use Rattle.edges.proofs.WithLaws.{with-cases, with-kept, with-put, with_fact-in, with_fact-out}

-- the test of a fact's numbers
pub range_shown : (fact : RoleFact) → is_in_range fact ≡ true → IsInRange fact
range_shown fact e = record { role = search (rules, tests, e); first = search (rules, tests, e); second = search (rules, tests, e) }

pub range_tested : (fact : RoleFact) → IsInRange fact → is_in_range fact ≡ true
range_tested fact h = let r = h.role in let a = h.first in let b = h.second in search (rules, tests)

pub tested : (fact : RoleFact) → (is_in_range fact ≡ true) ⊎ (is_in_range fact ≡ false)
tested fact = by (is_in_range fact) refl
  where
    by : (b : Bool) → is_in_range fact ≡ b → (is_in_range fact ≡ true) ⊎ (is_in_range fact ≡ false)
    by true e = inl e
    by false e = inr e

module _ (facts : List ℕ) (roles a : ℕ) (edge : FactEdge) where
  -- one of the first n facts makes the edge
  record IsMade (n : ℕ) : Type 0 where
    fact : ℕ
    among : fact < n
    rows : IsInRange (read_role_fact facts fact)
    makes : MakesEdge (read_role_fact facts fact) a edge
    member : Has roles edge.role.0

  later : (n : ℕ) → IsMade n → IsMade (suc n)
  later n m = record { fact = m.fact; among = let l = m.among in omega arith; rows = m.rows; makes = m.makes; member = m.member }

  none_listed : Contains (edges_of_first facts roles a 0) edge → ⊥
  unfolding edges_of_first
  none_listed m = let l = m.1 in absurd (omega arith)

  made : (n : ℕ) → Contains (edges_of_first facts roles a n) edge → IsMade n
  made zero m = absurd (none_listed m)
  made (suc n) m = side (λ q. made n q) (tested fact) m
    where
      fact : RoleFact
      fact = read_role_fact facts n

      side : (Contains (edges_of_first facts roles a n) edge → IsMade n) → (is_in_range fact ≡ true) ⊎ (is_in_range fact ≡ false)
          → Contains (edges_of_first facts roles a (suc n)) edge → IsMade (suc n)
      side more (inl e) m =
          ⊎_elim
          (λ p. ⊎_elim (λ q. later n (more q))
          (λ q. record {
            fact = n;
            among = omega arith;
            rows = range_shown fact e;
            makes = at_second (sym q.0) (sym q.2);
            member = ap (λ (x : FactEdge). bit_at roles x.role.0) (sym q.2) ∙ q.1;
          })
          (with-cases roles a fact.second.0 (back_along fact) (edges_of_first facts roles a n) edge p))
          (λ q. record {
            fact = n;
            among = omega arith;
            rows = range_shown fact e;
            makes = at_first (sym q.0) (sym q.2);
            member = ap (λ (x : FactEdge). bit_at roles x.role.0) (sym q.2) ∙ q.1;
          })
          (with-cases roles a fact.first.0 (along fact) _ edge (rw (with_fact-in facts roles a n e) at m))
      side more (inr e) m = later n (more (rw (with_fact-out facts roles a n e) at m))

  listed : (n : ℕ) → IsMade n → Contains (edges_of_first facts roles a n) edge
  listed zero m = let l = m.among in absurd (omega arith)
  listed (suc n) m =
      side (λ ne. listed n (record
      { fact = m.fact; among = let l = m.among in omega (arith, ne); rows = m.rows; makes = m.makes; member = m.member }))
      (tested fact) (ℕ_discrete m.fact n)
    where
      fact : RoleFact
      fact = read_role_fact facts n

      put : MakesEdge fact a edge
          → Contains (with_edge roles a fact.first.0 (along fact)
          (with_edge roles a fact.second.0 (back_along fact) (edges_of_first facts roles a n))) edge
      put (at_first p q) = rw q (with-put roles a fact.first.0 (along fact) _ (sym p) (rw q at m.member))
      put (at_second p q) = with-kept roles a fact.first.0 (along fact) _ edge
          (rw q (with-put roles a fact.second.0 (back_along fact) _ (sym p) (rw q at m.member)))

      side : ((m.fact ≡ n → ⊥) → Contains (edges_of_first facts roles a n) edge) → (is_in_range fact ≡ true) ⊎ (is_in_range fact ≡ false)
          → Dec (m.fact ≡ n) → Contains (edges_of_first facts roles a (suc n)) edge
      side before (inl e) (yes q) = rw (with_fact-in facts roles a n e) (put (rw q at m.makes))
      side before (inl e) (no ne) = rw (with_fact-in facts roles a n e)
          (with-kept roles a _ _ _ edge (with-kept roles a _ _ _ edge (before ne)))
      side before (inr e) (yes q) = let t = range_tested fact (rw q at m.rows) in absurd (search (rules, t, e))
      side before (inr e) (no ne) = rw (with_fact-out facts roles a n e) (before ne)

  -- THEOREM: the list has the edges that facts make
  pub edge-listed : Contains (edges_at facts roles a) edge ↔ HasEdge facts roles a edge
  unfolding edges_at
  edge-listed = (
    λ m. let w = made (facts_read facts) m in
        record { is = record { fact = w.fact; read = w.among; rows = w.rows; makes = w.makes }; member = w.member },
    λ h.
        let w = h.is in
        listed (facts_read facts) (record { fact = w.fact; among = w.read; rows = w.rows; makes = w.makes; member = h.member }),
  )

-- the numbers of an edge are in range
module _ (facts : List ℕ) (a : ℕ) (edge : FactEdge) where
  pub edge-role : IsFactEdge facts a edge → edge.role.0 < role_width
  edge-role h = by h.makes
    where
      by : MakesEdge (read_role_fact facts h.fact) a edge → edge.role.0 < role_width
      by (at_first p q) = let r = h.rows.role in rw q (omega arith)
      by (at_second p q) = let r = h.rows.role in rw q (omega arith)

  pub edge-to : IsFactEdge facts a edge → edge.to.0 < most_individuals
  edge-to h = by h.makes
    where
      by : MakesEdge (read_role_fact facts h.fact) a edge → edge.to.0 < most_individuals
      by (at_first p q) = rw q h.rows.second
      by (at_second p q) = rw q h.rows.first

  pub edge-from : IsFactEdge facts a edge → a < most_individuals
  edge-from h = by h.makes
    where
      by : MakesEdge (read_role_fact facts h.fact) a edge → a < most_individuals
      by (at_first p q) = rw p h.rows.first
      by (at_second p q) = rw p h.rows.second

-- where no edge is listed there is none
none-listed : (facts : List ℕ) (roles a : ℕ) → ((edge : FactEdge) → HasEdge facts roles a edge → ⊥) → edges_at facts roles a ≡ []
none-listed facts roles a none = by (edges_at facts roles a) (λ e m. none e ((edge-listed facts roles a e).0 m))
  where
    by : (edges : List FactEdge) → ((e : FactEdge) → Contains edges e → ⊥) → edges ≡ []
    by [] never = refl
    by (x ∷ xs) never = absurd (never x (Contains-append_left (x ∷ []) xs x (Contains-push [] x)))

-- an individual that is out of range has no edge, and none has one by a role of the empty set
pub no-edges : (facts : List ℕ) (roles a : ℕ) → most_individuals ≤ a → edges_at facts roles a ≡ []
no-edges facts roles a l = none-listed facts roles a (λ e h. let k = edge-from facts a e h.is in absurd (omega arith))

pub no-roles : (facts : List ℕ) (roles a : ℕ) → IsEmpty roles → edges_at facts roles a ≡ []
no-roles facts roles a none = none-listed facts roles a (λ e h. none e.role.0 h.member)
