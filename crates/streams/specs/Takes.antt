-- What a sink has taken of some bytes.
use Rattle.std.specs.Prelude.{◌≡◌, ℕ, List, ◌++◌, Option}
use Rattle.std.specs.Io.KnownBytes.{Appends}

-- the known bytes grow by those bytes, but for the rest of them
pub record TakesBut (rest : List ℕ) (old new : Option (List ℕ)) (bytes : List ℕ) : Type 0 where
  pub start : List ℕ
  pub parts : bytes ≡ start ++ rest
  pub appends : Appends old new start

-- the known bytes grow by a start of those bytes
pub record TakesStart (old new : Option (List ℕ)) (bytes : List ℕ) : Type 0 where
  pub start : List ℕ
  pub rest : List ℕ
  pub parts : bytes ≡ start ++ rest
  pub appends : Appends old new start
