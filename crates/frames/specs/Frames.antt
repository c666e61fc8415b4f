-- The frame of a line (docs/RULES.md, section 8): for every line one, or the refusals 9 and 10.
use Rattle.std.specs.Prelude.{ℕ, zero, suc, ◌+◌, ◌-◌, ◌*◌, ◌^◌, ◌≡◌, List, [], ◌∷◌, ◌++◌, Result, Ok, Err, IsSomeAnd}
use Rattle.kinds.specs.declared.Counts.{Counts}
use Rattle.kinds.specs.Kinds.{concept_name, role_name, individual, state, signed, deed_number, concept_of}
use Rattle.laws.specs.First.{FirstOf, ◌else◌}
use Rattle.frames.specs.Digits.{bytes, byte_of, LineOk}
use Rattle.frames.specs.Kinds.{kind_of, HasLength}
use Rattle.frames.specs.declared.kind.Kind.{Kind}
use Rattle.frames.specs.declared.kind.Kind.TheVariants as kind
use Rattle.frames.specs.declared.Frame.{Frame}
use Rattle.frames.specs.declared.Frame.TheVariants.{Declared, ConceptRule, ConceptExclusion, RoleRule, RoleExclusion, ConceptFact, RoleFact, RoleStep, TestStep, Final, Ask, AskFrom, Allowance, Expression, Salvage, ListedMark}
use Rattle.frames.specs.declared.Misread.{Misread}
use Rattle.frames.specs.declared.Misread.TheVariants.{BadLine, BadFrame}

-- the number in n bytes from byte k on, high byte first
unfoldable pub number_in : ℕ → (ℕ → ℕ) → ℕ → ℕ
number_in zero byte k = 0
number_in (suc n) byte k = 2 ^ 8 * number_in n byte k + byte (k + n)

-- the number in two bytes
abbrev pub two_bytes : (ℕ → ℕ) → ℕ → ℕ
two_bytes byte k = number_in 2 byte k

-- the first n bytes after the kind
unfoldable pub marks_of : (ℕ → ℕ) → ℕ → List ℕ
marks_of byte zero = []
marks_of byte (suc n) = marks_of byte n ++ byte (suc n) ∷ []

module _ (byte : ℕ → ℕ) (bytes : ℕ) where
  -- names, roles, individuals, states, start
  abbrev counts : Counts
  counts = record {
    names = byte 1;
    roles = byte 2;
    individuals = byte 3;
    states = byte 4;
    start = state (byte 5);
  }

  -- the frame of each kind, with its fields; where a line ends before its fact's deed number, the
  -- bytes of that are 0; all bytes of an allowance behind the kind are its number
  abbrev pub frame_by : Kind → Frame
  frame_by kind.Declared = Declared counts
  frame_by kind.ConceptRule = ConceptRule (concept_of (byte 1)) (concept_of (byte 2))
  frame_by kind.ConceptExclusion = ConceptExclusion (concept_of (byte 1)) (concept_of (byte 2))
  frame_by kind.RoleRule = RoleRule (signed (byte 1)) (signed (byte 2))
  frame_by kind.RoleExclusion = RoleExclusion (signed (byte 1)) (signed (byte 2))
  frame_by kind.ConceptFact =
      ConceptFact (concept_name (byte 1)) (individual (byte 2)) (deed_number (two_bytes byte 3))
  frame_by kind.RoleFact =
      RoleFact (role_name (byte 1)) (individual (byte 2)) (individual (byte 3))
      (deed_number (two_bytes byte 4))
  frame_by kind.RoleStep = RoleStep (state (byte 1)) (signed (byte 2)) (state (byte 3))
  frame_by kind.TestStep = TestStep (state (byte 1)) (concept_name (byte 2)) (state (byte 3))
  frame_by kind.Final = Final (state (byte 1))
  frame_by kind.Ask = Ask (individual (byte 1)) (individual (byte 2))
  frame_by kind.Allowance = Allowance (number_in (bytes - 1) byte 1)
  frame_by kind.Expression = Expression (marks_of byte (bytes - 1))
  frame_by kind.AskFrom = AskFrom (individual (byte 1))
  frame_by kind.Salvage = Salvage
  frame_by kind.ListedMark =
      ListedMark (number_in 4 byte 1) (state (byte 5)) (state (byte 6)) (concept_of (byte 7))

-- a line: 9, then 10 (of an unknown kind, or of the wrong length for its kind), then its frame
abbrev pub FrameOf : List ℕ → Result Frame Misread → Type 0
FrameOf l =
    let kind = kind_of (byte_of l 0) in
    FirstOf (LineOk l else Err BadLine
    ∷ IsSomeAnd kind (λ k. HasLength k (bytes l)) else Err BadFrame ∷ [])
    (λ r. IsSomeAnd kind (λ k. r ≡ Ok (frame_by (byte_of l) (bytes l) k)))
