-- That the definitions over an expression are what they are called (docs/RULES.md, section 8): a
-- mark can be first, last or next exactly where some word has it so. Here each mark reads a letter of
-- its own, so that a word shows by which marks it goes.
use Rattle.std.specs.Prelude.{◌↔◌, List, [], ◌∷◌, ◌++◌, ℕ}
use Rattle.kinds.specs.Kinds.{signed}
use Rattle.meaning.specs.Collection.{Letter, role}
use Rattle.expression.specs.Tree.{Tree, mark, both, either, many, WordOf, AllowsEmpty, CanBeFirst, CanBeLast, CanFollow}

-- the letter of the mark k's own
abbrev pub own : ℕ → Letter
own k = role (signed k)

-- the same expression, each mark reading its own letter
abbrev pub plain : Tree → Tree
plain (mark k l) = mark k (own k)
plain (both e f) = both (plain e) (plain f)
plain (either e f) = either (plain e) (plain f)
plain (many e) = many (plain e)

abbrev pub EmptyMeans : Type 0
EmptyMeans = (e : Tree) → AllowsEmpty e ↔ WordOf e []

-- some word begins with it
abbrev pub FirstMeans : Type 0
FirstMeans = (e : Tree) (k : ℕ)
    → CanBeFirst e k ↔ ((v : List Letter) × WordOf (plain e) (own k ∷ v))

-- some word ends with it
abbrev pub LastMeans : Type 0
LastMeans = (e : Tree) (k : ℕ)
    → CanBeLast e k ↔ ((u : List Letter) × WordOf (plain e) (u ++ (own k ∷ [])))

-- they are neighbours in some word
abbrev pub NextMeans : Type 0
NextMeans = (e : Tree) (j k : ℕ)
    → CanFollow e j k ↔ ((u v : List Letter) × WordOf (plain e) (u ++ (own j ∷ own k ∷ v)))
