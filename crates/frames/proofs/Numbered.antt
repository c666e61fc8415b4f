-- THEOREM: frames that fit a line and have the same numbers are the same frame.
use Rattle.std.specs.Prelude.{ℕ, ◌≡◌, List, [], ◌∷◌, Some, map, slice_index}
use Rattle.std.proofs.Common.{refl, sym, ap, ◌∙◌}
use Rattle.kinds.specs.Kinds.{concept_name, role_name, individual, state, signed, deed_number, concept_of}
use Rattle.frames.specs.Kinds.{kind_of}
use Rattle.frames.specs.Written.{Field, byte, kind_in, kind_byte, fields, numbers_of, AreNumbered, FitsLine}
use Rattle.frames.specs.declared.Frame.{Frame}
use Rattle.frames.specs.declared.Frame.TheVariants.{Declared, ConceptRule, ConceptExclusion, RoleRule, RoleExclusion, ConceptFact, RoleFact, RoleStep, TestStep, Final, Ask, AskFrom, Allowance, Expression, Salvage, ListedMark}
use Rattle.frames.specs.declared.kind.Kind.{Kind}
use Rattle.frames.specs.declared.kind.Kind.TheVariants as kind
use Rattle.frames.proofs.Named.{kind-named}

abbrev numbers : List Field → List ℕ
numbers xs = map (λ (x : Field). x.number) xs

-- the frame of a kind that has these numbers
module _ (row : List ℕ) where
  abbrev n : ℕ → ℕ
  n k = slice_index row k

  abbrev numbered : Kind → Frame
  numbered kind.Declared = Declared (record { names = n 0; roles = n 1; individuals = n 2; states = n 3; start = state (n 4) })
  numbered kind.ConceptRule = ConceptRule (concept_of (n 0)) (concept_of (n 1))
  numbered kind.ConceptExclusion = ConceptExclusion (concept_of (n 0)) (concept_of (n 1))
  numbered kind.RoleRule = RoleRule (signed (n 0)) (signed (n 1))
  numbered kind.RoleExclusion = RoleExclusion (signed (n 0)) (signed (n 1))
  numbered kind.ConceptFact = ConceptFact (concept_name (n 0)) (individual (n 1)) (deed_number (n 2))
  numbered kind.RoleFact = RoleFact (role_name (n 0)) (individual (n 1)) (individual (n 2)) (deed_number (n 3))
  numbered kind.RoleStep = RoleStep (state (n 0)) (signed (n 1)) (state (n 2))
  numbered kind.TestStep = TestStep (state (n 0)) (concept_name (n 1)) (state (n 2))
  numbered kind.Final = Final (state (n 0))
  numbered kind.Ask = Ask (individual (n 0)) (individual (n 1))
  numbered kind.AskFrom = AskFrom (individual (n 0))
  numbered kind.Allowance = Allowance (n 0)
  numbered kind.Expression = Expression row
  numbered kind.Salvage = Salvage
  numbered kind.ListedMark = ListedMark (n 0) (state (n 1)) (state (n 2)) (concept_of (n 3))

row-numbers : (row : List ℕ) → numbers (map byte row) ≡ row
row-numbers [] = refl
row-numbers (x ∷ row) = ap (λ (l : List ℕ). x ∷ l) (row-numbers row)

-- a frame is that of its numbers
is_numbered : (f : Frame) → AreNumbered f → f ≡ numbered (numbers (fields f)) (kind_in f)
is_numbered (ConceptRule C D) are = rw (are.0, are.1) refl
is_numbered (ConceptExclusion C D) are = rw (are.0, are.1) refl
is_numbered (ListedMark n s t B) are = rw are refl
is_numbered (Expression row) are = ap Expression (sym (row-numbers row))
is_numbered other are = refl

pub numbers-tell : (f g : Frame) → FitsLine f → FitsLine g → numbers_of f ≡ numbers_of g → f ≡ g
numbers-tell f g fits also e =
    let first : kind_byte (kind_in f) ≡ kind_byte (kind_in g) = cc in
    let rest : numbers (fields f) ≡ numbers (fields g) = cc in
    let named : Some (kind_in f) ≡ Some (kind_in g) = sym (kind-named (kind_in f)) ∙ ap kind_of first ∙ kind-named (kind_in g) in
    let kind : kind_in f ≡ kind_in g = cc in
    is_numbered f fits.concepts ∙ rw (rest, kind) (sym (is_numbered g also.concepts))
