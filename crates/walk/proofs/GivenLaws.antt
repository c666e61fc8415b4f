-- The edges of an individual, one after another: those that were given, and those that are left.
use Rattle.std.specs.Prelude.{◌≡◌, ◌↔◌, List, [], ◌∷◌, ◌++◌, ℕ, Contains}
use Rattle.std.proofs.Common.{sym, ap, ◌∙◌}
use Rattle.std.proofs.lemmas.List.{append_assoc, append-nil}
use Rattle.edges.specs.declared.FactEdge.{FactEdge}
use Rattle.edges.specs.Edges.{edges_at, HasEdge}
use Rattle.edges.specs.Visits.{GivesEdge}
use Rattle.edges.proofs.EdgeLaws.{edge-listed}

pub record AreGiven (facts : List ℕ) (roles a : ℕ) (given left : List FactEdge) : Type 0 where
  pub all : edges_at facts roles a ≡ given ++ left

module _ (facts : List ℕ) (roles a : ℕ) where
  pub given_none : (left : List FactEdge) → left ≡ edges_at facts roles a → AreGiven facts roles a [] left
  given_none left e = record { all = sym e }

  pub given_more : (given left after : List FactEdge) (edge : FactEdge) → AreGiven facts roles a given left → GivesEdge left edge after
      → AreGiven facts roles a (given ++ edge ∷ []) after
  given_more given left after edge g v =
      record { all = g.all ∙ ap (λ (x : List FactEdge). given ++ x) v.is ∙ sym (append_assoc given (edge ∷ []) after) }

  -- those that were given are all edges of the individual
  pub given_all : (given left : List FactEdge) → AreGiven facts roles a given left → left ≡ [] → (edge : FactEdge)
      → Contains given edge ↔ HasEdge facts roles a edge
  given_all given left g none edge =
      let same : edges_at facts roles a ≡ given = g.all ∙ ap (λ (x : List FactEdge). given ++ x) none ∙ append-nil given in
      let w = edge-listed facts roles a edge in
      rw same at w
