-- What the edges mean to a caller: of a collection, they are the edges of its model.
use Rattle.std.specs.Prelude.{◌≡◌, refl, List, ℕ, ◌/◌, ◌<◌, length}
use Rattle.std.proofs.Common.{sym, ◌∙◌, ap, arith}
use Rattle.kinds.specs.declared.RoleName.{RoleName}
use Rattle.kinds.specs.declared.Individual.{Individual}
use Rattle.kinds.specs.declared.SignedRole.{SignedRole}
use Rattle.kinds.specs.declared.Counts.{Counts}
use Rattle.kinds.specs.Kinds.{CountsFit, inverse, inverse-inverse, inverse-forward, inverse-backward, forward, backward, individual}
use Rattle.laws.specs.Member.{◌∈◌}
use Rattle.laws.specs.Numbers.{numbered-in, numbered-out}
use Rattle.meaning.specs.Collection.{Collection, NumbersDeclared}
use Rattle.meaning.specs.Lent.{Tables, collection, records, role_fact_width, role_fact}
use Rattle.meaning.specs.Orders.{RoleLe, turned}
use Rattle.meaning.specs.Model.{FactEdge as ModelEdge, ahead, behind}
use Rattle.tables.specs.Records.{read_role_fact}
use Rattle.edges.specs.declared.FactEdge.{FactEdge}
use Rattle.edges.specs.declared.packed.PackedEdge.{PackedEdge}
use Rattle.edges.specs.Edges.{IsInRange, MakesEdge, at_first, at_second, IsFactEdge, along, back_along}
use Rattle.edges.specs.Packed.{AreEdges}
use Rattle.edges.specs.Meant.{IsSelfFact, IsMetTwice, AreFew, IsOneList, IsEdgeOf}

-- two lists made of the same facts are one
pub one-list : (facts : List ℕ) (roles : ℕ) (begins begins' : List ℕ) (list list' : List PackedEdge) → AreEdges facts roles begins list
    → AreEdges facts roles begins' list'
    → IsOneList begins begins' list list'
one-list facts roles begins begins' list list' e f = record
    { start = λ a l. e.start a l ∙ sym (f.start a l); own = λ a l. e.own a l ∙ sym (f.own a l) }

abbrev out : RoleName → Individual → FactEdge
out r a = record { role = forward r; to = a }

abbrev back : RoleName → Individual → FactEdge
back r a = record { role = backward r; to = a }

-- a fact that leads from an individual to itself makes two edges there
pub met-twice : (facts : List ℕ) (k : ℕ) (r : RoleName) (a : Individual) → IsSelfFact facts k r a → IsMetTwice facts r a
met-twice facts k r a s = record {
  by_role = record { fact = k; read = s.read; rows = rows; makes = at_first (sym (ap (λ (i : Individual). i.0) first)) edge };
  by_inverse = record { fact = k; read = s.read; rows = rows; makes = at_second (sym (ap (λ (i : Individual). i.0) second)) edge' };
}
  where
    role : (role_fact facts k).0 ≡ r
    role = ap (λ (f : RoleName × Individual × Individual). f.0) s.is

    first : (role_fact facts k).1 ≡ a
    first = ap (λ (f : RoleName × Individual × Individual). f.1) s.is

    second : (role_fact facts k).2 ≡ a
    second = ap (λ (f : RoleName × Individual × Individual). f.2) s.is

    edge : out r a ≡ along (read_role_fact facts k)
    edge = rw (← role, ← second) refl

    edge' : back r a ≡ back_along (read_role_fact facts k)
    edge' = rw (← role, ← first) refl

    rows : IsInRange (read_role_fact facts k)
    rows =
        let p : (read_role_fact facts k).role.0 ≡ r.0 = ap (λ (x : RoleName). x.0) role in
        let q : (read_role_fact facts k).first.0 ≡ a.0 = ap (λ (x : Individual). x.0) first in
        let t : (read_role_fact facts k).second.0 ≡ a.0 = ap (λ (x : Individual). x.0) second in
        let h = s.role in
        let l = s.end in
        record { role = omega arith; first = omega arith; second = omega arith }

module _ (c : Counts) (t : Tables) where
  abbrev 𝓒 : Collection
  𝓒 = collection c t

  fact-in : (k : ℕ) → k < length t.role-facts / role_fact_width → role_fact t.role-facts k ∈ 𝓒.role-facts
  unfolding records
  fact-in k h = numbered-in (role_fact t.role-facts) (length t.role-facts / role_fact_width) k h

  fact_out : {f : RoleName × Individual × Individual} → f ∈ 𝓒.role-facts
      → (k : ℕ) × (k < length t.role-facts / role_fact_width) × (f ≡ role_fact t.role-facts k)
  unfolding records
  fact_out m = numbered-out (role_fact t.role-facts) (length t.role-facts / role_fact_width) m

  -- an edge goes along the edges of its fact
  pub edge-means : (a : Individual) (edge : FactEdge) → IsFactEdge t.role-facts a.0 edge → (S : SignedRole) → RoleLe 𝓒 edge.role S
      → ModelEdge 𝓒 a S edge.to
  edge-means a edge h S le = by h.makes
    where
      inside : role_fact t.role-facts h.fact ∈ 𝓒.role-facts
      inside = fact-in h.fact (let r = h.read in omega arith)

      by : MakesEdge (read_role_fact t.role-facts h.fact) a.0 edge → ModelEdge 𝓒 a S edge.to
      by (at_first p q) =
          let e : a ≡ (role_fact t.role-facts h.fact).1 = ap individual p in
          rw (e, q) (ahead inside (rw q at le))
      by (at_second p q) =
          let e : a ≡ (role_fact t.role-facts h.fact).2 = ap individual p in
          let r = (role_fact t.role-facts h.fact).0 in
          let g : RoleLe 𝓒 (inverse (backward r)) (inverse S) = turned (rw q at le) in
          let f : ModelEdge 𝓒 (role_fact t.role-facts h.fact).2 (inverse (inverse S))
          (role_fact t.role-facts h.fact).1 = behind {r = r} inside (rw (inverse-backward r) at g) in
          rw (e, q) (rw (inverse-inverse S) at f)

  -- each edge of the model is that of an edge which a fact makes, where facts have declared numbers and are not too many
  module _ (fit : CountsFit c) (ok : NumbersDeclared 𝓒) (few : AreFew t.role-facts) where
    rows : (k : ℕ) → k < length t.role-facts / role_fact_width → IsInRange (read_role_fact t.role-facts k)
    rows k l = let d = ok.role-facts (role_fact t.role-facts k) (fact-in k l) in
        record {
          role = omega (arith, d.0, fit.roles);
          first = omega (arith, d.1, fit.individuals);
          second = omega (arith, d.2, fit.individuals);
        }

    pub model-edge : (a b : Individual) (S : SignedRole) → ModelEdge 𝓒 a S b → (edge : FactEdge) × IsEdgeOf c t a S b edge
    model-edge a b S (ahead {r = r} m le) =
        let w = fact_out m in
        let k = w.0 in
        let g = rows k w.1 in
        let er : r ≡ (role_fact t.role-facts k).0 = ap (λ (f : RoleName × Individual × Individual). f.0) w.2 in
        let ea : a ≡ (role_fact t.role-facts k).1 = ap (λ (f : RoleName × Individual × Individual). f.1) w.2 in
        let eb : b ≡ (role_fact t.role-facts k).2 = ap (λ (f : RoleName × Individual × Individual). f.2) w.2 in (
          along (read_role_fact t.role-facts k),
          record {
            is = record { fact = k; read = omega (arith, w.1, few); rows = g; makes = at_first (ap (λ (i : Individual). i.0) ea) refl };
            to = sym eb;
            below = rw er at le;
          },
        )
    model-edge a b _ (behind {r = r} {S = S} m le) =
        let w = fact_out m in
        let k = w.0 in
        let g = rows k w.1 in
        let er : r ≡ (role_fact t.role-facts k).0 = ap (λ (f : RoleName × Individual × Individual). f.0) w.2 in
        let ea : a ≡ (role_fact t.role-facts k).2 = ap (λ (f : RoleName × Individual × Individual). f.2) w.2 in
        let eb : b ≡ (role_fact t.role-facts k).1 = ap (λ (f : RoleName × Individual × Individual). f.1) w.2 in
        let q : RoleLe 𝓒 (inverse (forward r)) (inverse S) = turned le in
        let p : RoleLe 𝓒 (backward r) (inverse S) = rw (inverse-forward r) at q in (
          back_along (read_role_fact t.role-facts k),
          record {
            is = record { fact = k; read = omega (arith, w.1, few); rows = g; makes = at_second (ap (λ (i : Individual). i.0) ea) refl };
            to = sym eb;
            below = rw er at p;
          },
        )
