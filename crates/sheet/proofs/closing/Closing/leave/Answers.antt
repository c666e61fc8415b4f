-- The rows hold the sheet, and the first area is they.
use Rattle.std.proofs.Common.{arith}
use Rattle.sheet.proofs.AreaLaws.{lays_marks, cleared}
use Rattle.sheet.proofs.Theory.{mark_low}
use Rattle.sheet.proofs.closing.Closing.leave.Goals as goal

pub returns-clause-first : goal.returns-clause-first
returns-clause-first c = λ rows n r. lays_marks _ _ _ (mark_low rows n) r.sheet c.lay.ensures

pub returns-clause-second : goal.returns-clause-second
returns-clause-second c = cleared _ _ (omega arith) (c.fill.ensures.after (λ y p. p))
