-- The sheet holds the marks of round 0.
use Rattle.sheet.proofs.TellingLaws.{own_told}
use Rattle.sheet.proofs.closing.Closing.own.Goals as goal

pub returns : goal.returns
returns c = λ rows r. own_told rows _ _ r.sheet c.new.ensures
