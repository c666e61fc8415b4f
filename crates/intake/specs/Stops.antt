-- Why a list is not held further against its sheet.
use Rattle.std.specs.Prelude.{ℕ, List}
use Rattle.std.specs.declared.io.Error.{Error}
use Rattle.streams.specs.Input.{Input}
use Rattle.intake.specs.Next.{StopsAmong}
use Rattle.intake.specs.declared.comparison.Stop.{Stop}
use Rattle.intake.specs.declared.comparison.Stop.TheVariants.{Departs, Unread}

-- it departs from these lines, or is not read, with an error that the source gives
abbrev pub StopsBy : (Error → Type 0) → Input → Input → ℕ → ℕ → List (List ℕ) → Stop → Type 0
StopsBy fails old new count count' ls Departs = StopsAmong old new count count' ls
StopsBy fails old new count count' ls (Unread e) = fails e
