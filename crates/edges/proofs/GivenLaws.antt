-- For a loop over the edges of an individual: those that were given, and those that are left, are all of them.
use Rattle.std.specs.Prelude.{ℕ, ◌≡◌, List, [], ◌∷◌, ◌++◌, Contains}
use Rattle.std.proofs.Common.{sym, ◌∙◌, ap}
use Rattle.std.proofs.lemmas.List.{append_assoc, append-nil}
use Rattle.std.proofs.lemmas.List.Elements.{Contains-append_left}
use Rattle.edges.specs.declared.FactEdge.{FactEdge}
use Rattle.edges.specs.Edges.{HasEdge, edges_at}
use Rattle.edges.specs.Visits.{GivesEdge}
use Rattle.edges.proofs.EdgeLaws.{edge-listed}

pub record Goes (facts : List ℕ) (roles a : ℕ) (given left : List FactEdge) : Type 0 where
  pub are : edges_at facts roles a ≡ given ++ left

module _ (facts : List ℕ) (roles a : ℕ) where
  pub goes_start : (left : List FactEdge) → left ≡ edges_at facts roles a → Goes facts roles a [] left
  goes_start left e = record { are = sym e }

  module _ (given left after : List FactEdge) (edge : FactEdge) (g : Goes facts roles a given left) (v : GivesEdge left edge after) where
    -- one edge more is given
    pub goes_more : Goes facts roles a (given ++ edge ∷ []) after
    goes_more = record { are = g.are ∙ ap (λ (x : List FactEdge). given ++ x) v.is ∙ sym (append_assoc given (edge ∷ []) after) }

  -- facts make each edge that was given
  pub given-made : (given left : List FactEdge) → Goes facts roles a given left → (edge : FactEdge) → Contains given edge
      → HasEdge facts roles a edge
  given-made given left g edge m = (edge-listed facts roles a edge).0 (rw g.are (Contains-append_left given left edge m))

  -- in the end each edge that facts make was given
  pub given-all : (given left : List FactEdge) → Goes facts roles a given left → left ≡ []
      → (edge : FactEdge) → HasEdge facts roles a edge → Contains given edge
  given-all given left g e edge h =
      let m = (edge-listed facts roles a edge).1 h in
      rw (g.are, e, append-nil) at m
