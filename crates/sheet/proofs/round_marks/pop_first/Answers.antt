-- A set tells the number of a concept, and the number is read.
use Rattle.std.proofs.Common.{refl}
use Rattle.kinds.specs.Kinds.{number-concept}
use Rattle.sheet.proofs.round_marks.pop_first.Goals as goal

pub returns-clause-first : goal.returns-clause-first
returns-clause-first c = rw (c.read.ensures, number-concept, c.number.ensures) c.in_ok-first.ensures

pub returns-clause-read : goal.returns-clause-read
returns-clause-read c = rw (c.read.ensures, number-concept) refl
