-- What the rows of the individuals and the generating roles say of a collection (docs/RULES.md,
-- section 5).
use Rattle.std.specs.Prelude.{ℕ, ◌↔◌, IsTrue, Bool}
use Rattle.kinds.specs.declared.Individual.{Individual}
use Rattle.kinds.specs.declared.SignedRole.{SignedRole}
use Rattle.kinds.specs.declared.Concept.{Concept}
use Rattle.kinds.specs.declared.Counts.{Counts}
use Rattle.kinds.specs.Kinds.{number_of, SignedDeclared, IndividualDeclared, ConceptDeclared}
use Rattle.meaning.specs.Lent.{Tables, collection}
use Rattle.theory.specs.Tree.{◌▹◌}
use Rattle.meaning.specs.Model.{IndividualHas, Belongs, individuals, Element}
use Rattle.meaning.specs.Clash.{Alive}
use Rattle.orders.specs.Rows.{IsConceptOrder}
use Rattle.elements.specs.Concepts.{Concepts}
use Rattle.elements.specs.Generating.{IsGenerating, AreGenerating}

-- an order of the concepts and rows of the individuals, as the contracts leave them
pub record AreOf (t : Tables) (order concepts : ℕ → ℕ → Bool) : Type 0 where
  pub ordered : IsConceptOrder t.concept-rules t.role-rules order
  pub shown : Concepts t.concept-facts t.role-facts order concepts

-- an unnamed element of the canonical model ends by R
abbrev pub EndsBy : Counts → Tables → SignedRole → Type 0
EndsBy c t R =
    (x : Element (collection c t))
    × Belongs (collection c t) (individuals (collection c t)) (x ▹ R)

module _ (c : Counts) (t : Tables) where
  -- the row of a declared individual marks a declared concept exactly where the individual has it
  abbrev pub ConceptsMean : Type 0
  ConceptsMean =
      (order concepts : ℕ → ℕ → Bool) → AreOf t order concepts
      → (a : Individual) (B : Concept) → IndividualDeclared c a → ConceptDeclared c B
      → IsTrue (concepts a.0 (number_of B)) ↔ IndividualHas (collection c t) a B

  -- a signed role is generating in the rows exactly where it is alive in the canonical model
  abbrev pub IsGeneratingMean : Type 0
  IsGeneratingMean =
      (order concepts : ℕ → ℕ → Bool) → AreOf t order concepts
      → (R : SignedRole) → IsGenerating concepts order R.0 ↔ Alive (collection c t) R

  -- the set of generating roles has a declared role exactly where an unnamed element ends by it
  abbrev pub GeneratingMean : Type 0
  GeneratingMean =
      (order concepts : ℕ → ℕ → Bool) → AreOf t order concepts
      → (m : ℕ → Bool) → AreGenerating concepts order m
      → (R : SignedRole) → SignedDeclared c R → IsTrue (m R.0) ↔ EndsBy c t R
