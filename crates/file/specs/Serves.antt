-- What the desk does with the text that an input writes (docs/RULES.md, section 8).
use Rattle.std.specs.Prelude.{ℕ, List, Option}
use Rattle.std.specs.Io.KnownBytes.{Appends}
use Rattle.shell.specs.Reports.{OneOf}
use Rattle.file.specs.Writes.{Writes}
use Rattle.file.specs.Former.{FormerWrites}
use Rattle.file.specs.Told.{IsUnspent}

-- P holds of the text that an input writes
abbrev pub Serves : List ℕ → (List ℕ → Type 0) → Type 0
Serves input = OneOf (Writes input)

-- and of the text that it wrote while there were at most 16 states
abbrev pub FormerServes : List ℕ → (List ℕ → Type 0) → Type 0
FormerServes input = OneOf (FormerWrites input)

-- known bytes grow by a text in which no answer has number 3
pub record AppendsUnspent (asks : ℕ) (old new : Option (List ℕ)) (text : List ℕ) : Type 0 where
  pub appends : Appends old new text
  pub unspent : IsUnspent asks text
