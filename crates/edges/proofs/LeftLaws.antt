-- The edges that an iterator has left.
use Rattle.std.specs.Prelude.{ℕ, suc, ◌≡◌, ◌<◌, List, ◌∷◌, length, get_or, map}
use Rattle.std.proofs.Common.{arith}
use Rattle.std.proofs.Math.ListN.{get_or-map}
use Rattle.std.proofs.lemmas.List.{length-map}
use Rattle.std.proofs.lemmas.List.Elements.{Contains-get_or}
use Rattle.edges.specs.declared.packed.PackedEdge.{PackedEdge}
use Rattle.edges.specs.Edges.{HasEdge, edges_at}
use Rattle.edges.specs.Packed.{edge_of, blank, AreInRange}
use Rattle.edges.proofs.EdgeLaws.{edge-listed, edge-role, edge-to}

-- the edges of an individual are in range
pub own_in_range : (facts : List ℕ) (roles a : ℕ) (left : List PackedEdge) → map edge_of left ≡ edges_at facts roles a → AreInRange left
own_in_range facts roles a left e = record {
  role = λ i l. edge-role facts a (edge_of (get_or left i blank)) (has i l).is;
  to = λ i l. edge-to facts a (edge_of (get_or left i blank)) (has i l).is;
}
  where
    has : (i : ℕ) → i < length left → HasEdge facts roles a (edge_of (get_or left i blank))
    has i l =
        let m = Contains-get_or (map edge_of left) i (edge_of blank) (simp length-map l) in
        (edge-listed facts roles a (edge_of (get_or left i blank))).0 (rw (← e, ← get_or-map edge_of left i blank) m)

-- so have those after the first
pub in_range_after : (all left : List PackedEdge) (first : PackedEdge) → all ≡ first ∷ left → AreInRange all → AreInRange left
in_range_after all left first e h =
    let g = rw e at h in
    record { role = λ i l. g.role (suc i) (omega arith); to = λ i l. g.to (suc i) (omega arith) }
