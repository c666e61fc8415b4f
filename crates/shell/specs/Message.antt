-- What standard error says where an input is not served whole (docs/RULES.md, section 8).
use Rattle.std.specs.Prelude.{ℕ, List, codes}
use Rattle.shell.specs.declared.ServeError.{ServeError}
use Rattle.shell.specs.declared.ServeError.TheVariants.{Unread, Unwritten}

abbrev pub message_of : ServeError → List ℕ
message_of (Unread e) = codes "standard input could not be read, so nothing is written"
message_of (Unwritten e) = codes "standard output could not be written whole"
