-- One fact, and that both tables come to the definition.
use Rattle.std.specs.Prelude.{ℕ, ◌+◌, ◌*◌, ◌/◌, ◌<◌, ◌≡◌, refl, ◌↔◌, ◌⊎◌, IsTrue, Bool, true, List, length, replicate, get_or, set}
use Rattle.std.proofs.Common.{sym, subst, ⊎_elim, inl, inr, arith, get_or-set_same, get_or-set_other}
use Rattle.std.proofs.Math.Path.{ap}
use Rattle.std.proofs.Math.Decide.{ℕ_discrete}
use Rattle.kinds.specs.declared.ConceptName.{ConceptName}
use Rattle.kinds.specs.declared.RoleName.{RoleName}
use Rattle.kinds.specs.declared.Individual.{Individual}
use Rattle.kinds.specs.Kinds.{most_names, base, concept_name, role_name, individual, most_individuals, most_roles}
use Rattle.laws.specs.Gains.{Either}
use Rattle.laws.specs.Member.{◌∈◌}
use Rattle.laws.specs.Numbers.{numbered-in, numbered-out}
use Rattle.laws.specs.Truth.{test-same}
use Rattle.meaning.specs.Lent.{records, concept_fact_width, role_fact_width, concept_fact, role_fact}
use Rattle.tables.specs.declared.records.ConceptFact.{ConceptFact}
use Rattle.tables.specs.declared.records.RoleFact.{RoleFact}
use Rattle.sets.specs.Bits.{IsUnion, concept_width}
use Rattle.sets.specs.Rows.{Adds, concept_marks, no_concepts}
use Rattle.sets.specs.declared.concepts.ConceptSet.{ConceptSet}
use Rattle.sets.proofs.RowLaws.{has_fact, adds_same, adds_then, blank_marks}
use Rattle.elements.specs.Concepts.{HasRows, Shown, named, first, second, Concepts}
use Rattle.elements.specs.Steps.{InRow, ByConcept, ByRole, ConceptListed, RoleListed}

-- a row joined with a set
pub joined : (h w : ℕ) (rows : List ConceptSet) (a n : ℕ) (x : ConceptSet) → a < length rows → IsUnion (get_or rows a no_concepts).0 n x.0
    → Adds h w (concept_marks rows) (InRow a n) (concept_marks (set rows a x))
joined h w rows a n x l u = record { at = λ i j hi hj. by i j (ℕ_discrete i a) }
  where
    by : (i j : ℕ) → Dec (i ≡ a) → IsTrue (concept_marks (set rows a x) i j) ↔ ((concept_marks rows i j ≡ true) ⊎ InRow a n i j)
    by i j (yes e) =
        rw (e, get_or-set_same rows a x no_concepts l)
        (let s = u.member j in
        let v = has_fact (get_or rows a no_concepts).0 j in
        let y = has_fact x.0 j in
        let z = has_fact n j in (
          λ p. ⊎_elim (λ q. inl (v.1 q)) (λ q. inr (refl, z.1 q)) (s.0 (y.0 p)),
          λ p. y.1
              (s.1 (⊎_elim (λ q. inl (v.0 q)) (λ q. inr (z.0 q.1)) p)),
        ))
    by i j (no ne) = rw (get_or-set_other rows a i x no_concepts ne) (λ p. inl p, ⊎_elim (λ p. p) (λ q. absurd (ne q.0)))

-- nothing to add
adds_not : (h w : ℕ) (m : ℕ → ℕ → Bool) (E : ℕ → ℕ → Type 0) → ((i j : ℕ) → i < h → j < w → E i j → ⊥) → Adds h w m E m
adds_not h w m E never = record { at = λ i j hi hj. (λ p. inl p, ⊎_elim (λ p. p) (λ p. absurd (never i j hi hj p))) }

module _ (m : ℕ → ℕ → Bool) (above : List ConceptSet) where
  pub concept_fact_row : (fact : ConceptFact) (r : ℕ → ℕ → Bool) → fact.name.0 < most_names
      → Adds most_individuals concept_width m (InRow fact.individual.0 (get_or above fact.name.0 no_concepts).0) r
      → Adds most_individuals concept_width m (ByConcept (concept_marks above) fact) r
  concept_fact_row fact r h g = adds_same most_individuals concept_width m _ _ r g
      (λ i j hi hj p. record { has-row = h; own = p.0; marked = p.1 }) (λ i j hi hj p. (p.own, p.marked))

  pub role_fact_rows : (fact : RoleFact) (s r : ℕ → ℕ → Bool) → HasRows fact.role fact.first fact.second
      → Adds most_individuals concept_width m (InRow fact.first.0 (get_or above (base + 2 * fact.role.0) no_concepts).0) s
      → Adds most_individuals concept_width s (InRow fact.second.0 (get_or above (base + 2 * fact.role.0 + 1) no_concepts).0) r
      → Adds most_individuals concept_width m (ByRole (concept_marks above) fact) r
  role_fact_rows fact s r h u v =
      adds_same most_individuals concept_width m
      (Either (InRow fact.first.0 (get_or above (base + 2 * fact.role.0) no_concepts).0)
      (InRow fact.second.0 (get_or above (base + 2 * fact.role.0 + 1) no_concepts).0)) _ r
      (adds_then most_individuals concept_width m _ _ s r u v) (λ i j hi hj p. record { has-rows = h; marked = p })
      (λ i j hi hj p. p.marked)

  pub no_concept_fact : (fact : ConceptFact) → (fact.name.0 < most_names → fact.individual.0 < most_individuals → ⊥)
      → Adds most_individuals concept_width m (ByConcept (concept_marks above) fact) m
  no_concept_fact fact never = adds_not most_individuals concept_width m _ (λ i j hi hj p. never p.has-row (let e = p.own in omega arith))

  pub no_role_fact : (fact : RoleFact)
      → (fact.role.0 < most_roles → fact.first.0 < most_individuals → fact.second.0 < most_individuals → ⊥)
      → Adds most_individuals concept_width m (ByRole (concept_marks above) fact) m
  no_role_fact fact never = adds_not most_individuals concept_width m _ (λ i j hi hj p. let h = p.has-rows in never h.role h.first h.second)

module _ (cf rf : List ℕ) (order : ℕ → ℕ → Bool) where
  concept-in : (i j : ℕ) → ConceptListed cf order i j → Shown cf rf order (individual i) j
  unfolding records
  concept-in i j (k, h, w) = named (concept_name (get_or cf (concept_fact_width * k + 0) 0))
      (rw (← w.own) at (numbered-in (concept_fact cf) (length cf / concept_fact_width) k h)) w.has-row w.marked

  role-in : (i j : ℕ) → RoleListed rf order i j → Shown cf rf order (individual i) j
  unfolding records
  role-in i j (k, h, w) = side w.marked
    where
      r : RoleName
      r = role_name (get_or rf (role_fact_width * k + 0) 0)

      a : Individual
      a = individual (get_or rf (role_fact_width * k + 1) 0)

      b : Individual
      b = individual (get_or rf (role_fact_width * k + 2) 0)

      fact : (r, a, b) ∈ records role_fact_width role_fact rf
      fact = numbered-in (role_fact rf) (length rf / role_fact_width) k h

      side : ((i ≡ a.0) × (order (base + 2 * r.0) j ≡ true)) ⊎ ((i ≡ b.0) × (order (base + 2 * r.0 + 1) j ≡ true))
          → Shown cf rf order (individual i) j
      side (inl (e, p)) = subst (λ (x : ℕ). Shown cf rf order (individual x) j) (sym e) (first r b fact w.has-rows p)
      side (inr (e, p)) = subst (λ (x : ℕ). Shown cf rf order (individual x) j) (sym e) (second r a fact w.has-rows p)

  shown-out : (i j : ℕ) → Shown cf rf order (individual i) j → Either (ConceptListed cf order) (RoleListed rf order) i j
  unfolding records
  shown-out i j (named A m h p) =
      let w = numbered-out (concept_fact cf) (length cf / concept_fact_width) m in
      let e : A.0 ≡ get_or cf (concept_fact_width * w.0 + 0) 0 = ap (λ (x : ConceptName × Individual). x.0.0) w.2 in
      let f : i ≡ get_or cf (concept_fact_width * w.0 + 1) 0 = ap (λ (x : ConceptName × Individual). x.1.0) w.2 in
      inl (w.0, w.1, record { has-row = rw e at h; own = f; marked = rw e at p })
  shown-out i j (first r b m h p) =
      let w = numbered-out (role_fact rf) (length rf / role_fact_width) m in
      let e : r.0 ≡ get_or rf (role_fact_width * w.0 + 0) 0 = ap (λ (x : RoleName × Individual × Individual). x.0.0) w.2 in
      let f : i ≡ get_or rf (role_fact_width * w.0 + 1) 0 = ap (λ (x : RoleName × Individual × Individual). x.1.0) w.2 in
      let d : b.0 ≡ get_or rf (role_fact_width * w.0 + 2) 0 = ap (λ (x : RoleName × Individual × Individual). x.2.0) w.2 in
      inr (
        w.0,
        w.1,
        record {
          has-rows = record { role = rw e at h.role; first = rw f at h.first; second = rw d at h.second };
          marked = inl (f, rw e at p);
        },
      )
  shown-out i j (second r b m h p) =
      let w = numbered-out (role_fact rf) (length rf / role_fact_width) m in
      let e : r.0 ≡ get_or rf (role_fact_width * w.0 + 0) 0 = ap (λ (x : RoleName × Individual × Individual). x.0.0) w.2 in
      let f : b.0 ≡ get_or rf (role_fact_width * w.0 + 1) 0 = ap (λ (x : RoleName × Individual × Individual). x.1.0) w.2 in
      let d : i ≡ get_or rf (role_fact_width * w.0 + 2) 0 = ap (λ (x : RoleName × Individual × Individual). x.2.0) w.2 in
      inr (
        w.0,
        w.1,
        record {
          has-rows = record { role = rw e at h.role; first = rw f at h.first; second = rw d at h.second };
          marked = inr (d, rw e at p);
        },
      )

  -- from no mark, the two tables come to the definition
  pub all_facts : (s r : ℕ → ℕ → Bool)
      → Adds most_individuals concept_width (concept_marks (replicate most_individuals no_concepts)) (ConceptListed cf order) s
      → Adds most_individuals concept_width s (RoleListed rf order) r → Concepts cf rf order r
  all_facts s r u v =
      let both = adds_then most_individuals concept_width (concept_marks (replicate most_individuals no_concepts))
      (ConceptListed cf order) (RoleListed rf order) s r u v in
      record {
        at = λ i j hi hj.
            test-same (both.at i j hi hj)
            (⊎_elim (λ p. absurd (blank_marks most_individuals i j hi p)) (⊎_elim (concept-in i j) (role-in i j)))
            (λ p. inr (shown-out i j p));
      }
