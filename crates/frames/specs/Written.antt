-- The line of a frame (docs/RULES.md, section 8): the way back from a frame to the line that says it.
use Rattle.std.specs.Prelude.{ℕ, ◌*◌, ◌^◌, ◌<◌, ◌≤◌, ◌≡◌, ⊤, All, List, [], ◌∷◌, map, length}
use Rattle.std.specs.Int.{bytes_high_first}
use Rattle.std.specs.List.{flat_map}
use Rattle.kinds.specs.declared.Concept.{Concept}
use Rattle.kinds.specs.Kinds.{number_of, concept_of}
use Rattle.frames.specs.Text.{characters, most_bytes}
use Rattle.frames.specs.declared.kind.Kind.{Kind}
use Rattle.frames.specs.declared.kind.Kind.TheVariants as kind
use Rattle.frames.specs.declared.Frame.{Frame}
use Rattle.frames.specs.declared.Frame.TheVariants.{Declared, ConceptRule, ConceptExclusion, RoleRule, RoleExclusion, ConceptFact, RoleFact, RoleStep, TestStep, Final, Ask, AskFrom, Allowance, Expression, Salvage, ListedMark}

-- the kind of a frame
abbrev pub kind_in : Frame → Kind
kind_in (Declared c) = kind.Declared
kind_in (ConceptRule C D) = kind.ConceptRule
kind_in (ConceptExclusion C D) = kind.ConceptExclusion
kind_in (RoleRule R S) = kind.RoleRule
kind_in (RoleExclusion R S) = kind.RoleExclusion
kind_in (ConceptFact A a n) = kind.ConceptFact
kind_in (RoleFact r a b n) = kind.RoleFact
kind_in (RoleStep s R t) = kind.RoleStep
kind_in (TestStep s A t) = kind.TestStep
kind_in (Final s) = kind.Final
kind_in (Ask a b) = kind.Ask
kind_in (AskFrom a) = kind.AskFrom
kind_in (Allowance n) = kind.Allowance
kind_in (Expression row) = kind.Expression
kind_in Salvage = kind.Salvage
kind_in (ListedMark n s t B) = kind.ListedMark

-- the byte that names a kind
abbrev pub kind_byte : Kind → ℕ
kind_byte kind.Declared = 0x01
kind_byte kind.ConceptRule = 0x02
kind_byte kind.ConceptExclusion = 0x03
kind_byte kind.RoleRule = 0x04
kind_byte kind.RoleExclusion = 0x05
kind_byte kind.ConceptFact = 0x06
kind_byte kind.RoleFact = 0x07
kind_byte kind.RoleStep = 0x08
kind_byte kind.TestStep = 0x09
kind_byte kind.Final = 0x0A
kind_byte kind.Ask = 0x0B
kind_byte kind.Allowance = 0x0C
kind_byte kind.Expression = 0x0D
kind_byte kind.AskFrom = 0x0E
kind_byte kind.Salvage = 0x0F
kind_byte kind.ListedMark = 0x10

-- a field: in how many bytes it is written, and its number
pub record Field : Type 0 where
  pub width : ℕ
  pub number : ℕ

-- a number in one byte; a deed number in two; rounds in four
abbrev pub byte : ℕ → Field
byte n = record { width = 1; number = n }

abbrev pub deed : ℕ → Field
deed n = record { width = 2; number = n }

abbrev pub rounds : ℕ → Field
rounds n = record { width = 4; number = n }

-- the fields of a frame, in their order
abbrev pub fields : Frame → List Field
fields (Declared c) =
    byte c.names ∷ byte c.roles ∷ byte c.individuals ∷ byte c.states ∷ byte c.start.0 ∷ []
fields (ConceptRule C D) = byte (number_of C) ∷ byte (number_of D) ∷ []
fields (ConceptExclusion C D) = byte (number_of C) ∷ byte (number_of D) ∷ []
fields (RoleRule R S) = byte R.0 ∷ byte S.0 ∷ []
fields (RoleExclusion R S) = byte R.0 ∷ byte S.0 ∷ []
fields (ConceptFact A a n) = byte A.0 ∷ byte a.0 ∷ deed n.0 ∷ []
fields (RoleFact r a b n) = byte r.0 ∷ byte a.0 ∷ byte b.0 ∷ deed n.0 ∷ []
fields (RoleStep s R t) = byte s.0 ∷ byte R.0 ∷ byte t.0 ∷ []
fields (TestStep s A t) = byte s.0 ∷ byte A.0 ∷ byte t.0 ∷ []
fields (Final s) = byte s.0 ∷ []
fields (Ask a b) = byte a.0 ∷ byte b.0 ∷ []
fields (AskFrom a) = byte a.0 ∷ []
fields (Allowance n) = rounds n ∷ []
fields (Expression row) = map byte row
fields Salvage = []
fields (ListedMark n s t B) = rounds n ∷ byte s.0 ∷ byte t.0 ∷ byte (number_of B) ∷ []

-- a frame as numbers: that of its kind, and those of its fields
abbrev pub numbers_of : Frame → List ℕ
numbers_of f = kind_byte (kind_in f) ∷ map (λ (x : Field). x.number) (fields f)

-- and as bytes, each field high byte first
unfoldable pub frame_bytes : Frame → List ℕ
frame_bytes f =
    kind_byte (kind_in f) ∷ flat_map (λ (x : Field). bytes_high_first x.width x.number) (fields f)

-- its line, without the end: an allowance has four bytes, and a fact its deed number
unfoldable pub line_of : Frame → List ℕ
line_of f = flat_map characters (frame_bytes f)

-- a concept that is read back from its number
abbrev pub IsNumbered : Concept → Type 0
IsNumbered C = concept_of (number_of C) ≡ C

abbrev pub AreNumbered : Frame → Type 0
AreNumbered (ConceptRule C D) = IsNumbered C × IsNumbered D
AreNumbered (ConceptExclusion C D) = IsNumbered C × IsNumbered D
AreNumbered (ListedMark n s t B) = IsNumbered B
AreNumbered other = ⊤

-- a frame that a line can say: each number goes into the bytes of its field, a concept is that of
-- its number, and there are no more marks than a line has room for
pub record FitsLine (f : Frame) : Type 0 where
  pub numbers : All (λ (x : Field). x.number < 2 ^ (8 * x.width)) (fields f)
  pub concepts : AreNumbered f
  pub short : length (frame_bytes f) ≤ most_bytes
