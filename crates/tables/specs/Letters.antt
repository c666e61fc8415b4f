-- What a step reads, by its kind.
use Rattle.std.specs.Prelude.{ℕ, zero, suc}
use Rattle.kinds.specs.declared.Counts.{Counts}
use Rattle.kinds.specs.Kinds.{concept_name, signed, NameDeclared, SignedDeclared}
use Rattle.tables.specs.declared.records.Letter.{Letter}
use Rattle.tables.specs.declared.records.Letter.TheVariants.{Role, Test}

-- the kind of a step is 0 for a role, 1 for a test
abbrev pub read_letter : ℕ → ℕ → Letter
read_letter zero x = Role (signed x)
read_letter (suc kind) x = Test (concept_name x)

abbrev pub IsLetterDeclared : Counts → Letter → Type 0
IsLetterDeclared c (Role S) = SignedDeclared c S
IsLetterDeclared c (Test A) = NameDeclared c A
