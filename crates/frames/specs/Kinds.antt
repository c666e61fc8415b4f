-- The kinds of frame (docs/RULES.md, section 8): the byte that names each, and the bytes of its frame.
use Rattle.std.specs.Prelude.{ℕ, ◌+◌, ◌≡◌, ◌⊎◌, ⊤, List, [], ◌∷◌, Option, None, Some, unwrap_or, slice_get}
use Rattle.frames.specs.declared.kind.Kind.{Kind}
use Rattle.frames.specs.declared.kind.Kind.TheVariants.{Declared, ConceptRule, ConceptExclusion, RoleRule, RoleExclusion, ConceptFact, RoleFact, RoleStep, TestStep, Final, Ask, Allowance, Expression, AskFrom, Salvage, ListedMark}

-- each kind at the byte that names it, from 00 on, which names none
abbrev pub kinds : List (Option Kind)
kinds =
    None ∷ Some Declared
    ∷ Some ConceptRule ∷ Some ConceptExclusion ∷ Some RoleRule ∷ Some RoleExclusion
    ∷ Some ConceptFact ∷ Some RoleFact
    ∷ Some RoleStep ∷ Some TestStep ∷ Some Final
    ∷ Some Ask ∷ Some Allowance ∷ Some Expression ∷ Some AskFrom
    ∷ Some Salvage ∷ Some ListedMark ∷ []

-- the kind that a frame's first byte names, if it names one
unfoldable pub kind_of : ℕ → Option Kind
kind_of byte = unwrap_or (slice_get kinds byte) None

-- the bytes of a frame of each kind, with the byte that names it; a fact's deed number, the two
-- bytes more of a long allowance and the marks of an expression are not counted
abbrev pub frame_length : Kind → ℕ
frame_length Declared = 6
frame_length ConceptRule = 3
frame_length ConceptExclusion = 3
frame_length RoleRule = 3
frame_length RoleExclusion = 3
frame_length ConceptFact = 3
frame_length RoleFact = 4
frame_length RoleStep = 4
frame_length TestStep = 4
frame_length Final = 2
frame_length Ask = 3
frame_length Allowance = 3
frame_length Expression = 1
frame_length AskFrom = 2
frame_length Salvage = 1
frame_length ListedMark = 8

-- a frame of a kind may have so many bytes: a fact's two more, for a deed number at its end, an
-- allowance's two more, for a number of four bytes, and an expression's any number
abbrev pub HasLength : Kind → ℕ → Type 0
HasLength ConceptFact n = (n ≡ frame_length ConceptFact) ⊎ (n ≡ frame_length ConceptFact + 2)
HasLength RoleFact n = (n ≡ frame_length RoleFact) ⊎ (n ≡ frame_length RoleFact + 2)
HasLength Allowance n = (n ≡ frame_length Allowance) ⊎ (n ≡ frame_length Allowance + 2)
HasLength Expression n = ⊤
HasLength kind n = n ≡ frame_length kind
