-- What the edges that facts make mean to a caller, of a table of any length: of a collection, they are the edges of its model.
use Rattle.std.specs.Prelude.{◌≡◌, refl, ℕ, ◌/◌, ◌<◌, length}
use Rattle.std.proofs.Common.{sym, ap, arith}
use Rattle.kinds.specs.declared.RoleName.{RoleName}
use Rattle.kinds.specs.declared.Individual.{Individual}
use Rattle.kinds.specs.declared.SignedRole.{SignedRole}
use Rattle.kinds.specs.declared.Counts.{Counts}
use Rattle.kinds.specs.Kinds.{CountsFit, inverse, inverse-inverse, inverse-forward, inverse-backward, forward, backward, individual}
use Rattle.laws.specs.Member.{◌∈◌}
use Rattle.laws.specs.Numbers.{numbered-in, numbered-out}
use Rattle.meaning.specs.Collection.{Collection, NumbersDeclared}
use Rattle.meaning.specs.Lent.{Tables, collection, records, role_fact_width, role_fact}
use Rattle.meaning.specs.Orders.{RoleLe, turned}
use Rattle.meaning.specs.Model.{FactEdge as ModelEdge, ahead, behind}
use Rattle.tables.specs.Records.{read_role_fact}
use Rattle.edges.specs.declared.FactEdge.{FactEdge}
use Rattle.edges.specs.Edges.{IsInRange, MakesEdge, at_first, at_second, along, back_along}
use Rattle.clash.specs.Clashes.{IsMade}

-- a fact of the table makes the edge at a, to b and by a role below S
pub record IsMadeBelow (c : Counts) (t : Tables) (a : Individual) (S : SignedRole) (b : Individual) (edge : FactEdge) : Type 0 where
  pub is : IsMade t.role-facts (length t.role-facts / role_fact_width) a.0 edge
  pub to : edge.to ≡ b
  pub below : RoleLe (collection c t) edge.role S

module _ (c : Counts) (t : Tables) where
  abbrev 𝓒 : Collection
  𝓒 = collection c t

  abbrev many : ℕ
  many = length t.role-facts / role_fact_width

  fact-in : (k : ℕ) → k < many → role_fact t.role-facts k ∈ 𝓒.role-facts
  unfolding records
  fact-in k h = numbered-in (role_fact t.role-facts) many k h

  fact_out : {f : RoleName × Individual × Individual} → f ∈ 𝓒.role-facts → (k : ℕ) × (k < many) × (f ≡ role_fact t.role-facts k)
  unfolding records
  fact_out m = numbered-out (role_fact t.role-facts) many m

  -- an edge goes along the edges of its fact
  pub made-means : (a : Individual) (edge : FactEdge) → IsMade t.role-facts many a.0 edge → (S : SignedRole) → RoleLe 𝓒 edge.role S
      → ModelEdge 𝓒 a S edge.to
  made-means a edge h S le = by h.makes
    where
      inside : role_fact t.role-facts h.fact ∈ 𝓒.role-facts
      inside = fact-in h.fact h.before

      by : MakesEdge (read_role_fact t.role-facts h.fact) a.0 edge → ModelEdge 𝓒 a S edge.to
      by (at_first p q) =
          let e : a ≡ (role_fact t.role-facts h.fact).1 = ap individual p in
          rw (e, q) (ahead inside (rw q at le))
      by (at_second p q) =
          let e : a ≡ (role_fact t.role-facts h.fact).2 = ap individual p in
          let r = (role_fact t.role-facts h.fact).0 in
          let g : RoleLe 𝓒 (inverse (backward r)) (inverse S) = turned (rw q at le) in
          let f : ModelEdge 𝓒 (role_fact t.role-facts h.fact).2 (inverse (inverse S))
          (role_fact t.role-facts h.fact).1 = behind {r = r} inside (rw (inverse-backward r) at g) in
          rw (e, q) (rw (inverse-inverse S) at f)

  -- each edge of the model is that of such an edge, where facts have declared numbers
  module _ (fit : CountsFit c) (ok : NumbersDeclared 𝓒) where
    rows : (k : ℕ) → k < many → IsInRange (read_role_fact t.role-facts k)
    rows k l = let d = ok.role-facts (role_fact t.role-facts k) (fact-in k l) in
        record {
          role = omega (arith, d.0, fit.roles);
          first = omega (arith, d.1, fit.individuals);
          second = omega (arith, d.2, fit.individuals);
        }

    pub model-made : (a b : Individual) (S : SignedRole) → ModelEdge 𝓒 a S b → (edge : FactEdge) × IsMadeBelow c t a S b edge
    model-made a b S (ahead {r = r} m le) =
        let w = fact_out m in
        let k = w.0 in
        let er : r ≡ (role_fact t.role-facts k).0 = ap (λ (f : RoleName × Individual × Individual). f.0) w.2 in
        let ea : a ≡ (role_fact t.role-facts k).1 = ap (λ (f : RoleName × Individual × Individual). f.1) w.2 in
        let eb : b ≡ (role_fact t.role-facts k).2 = ap (λ (f : RoleName × Individual × Individual). f.2) w.2 in (
          along (read_role_fact t.role-facts k),
          record {
            is = record { fact = k; before = w.1; rows = rows k w.1; makes = at_first (ap (λ (i : Individual). i.0) ea) refl };
            to = sym eb;
            below = rw er at le;
          },
        )
    model-made a b _ (behind {r = r} {S = S} m le) =
        let w = fact_out m in
        let k = w.0 in
        let er : r ≡ (role_fact t.role-facts k).0 = ap (λ (f : RoleName × Individual × Individual). f.0) w.2 in
        let ea : a ≡ (role_fact t.role-facts k).2 = ap (λ (f : RoleName × Individual × Individual). f.2) w.2 in
        let eb : b ≡ (role_fact t.role-facts k).1 = ap (λ (f : RoleName × Individual × Individual). f.1) w.2 in
        let q : RoleLe 𝓒 (inverse (forward r)) (inverse S) = turned le in
        let p : RoleLe 𝓒 (backward r) (inverse S) = rw (inverse-forward r) at q in (
          back_along (read_role_fact t.role-facts k),
          record {
            is = record { fact = k; before = w.1; rows = rows k w.1; makes = at_second (ap (λ (i : Individual). i.0) ea) refl };
            to = sym eb;
            below = rw er at p;
          },
        )
