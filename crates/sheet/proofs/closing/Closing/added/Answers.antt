-- The delta holds what the next round adds.
use Rattle.std.proofs.Common.{add-one}
use Rattle.sheet.proofs.TellingLaws.{added_told}
use Rattle.sheet.proofs.closing.Closing.added.Goals as goal

pub returns : goal.returns
returns c = λ rows n r. rw (add-one n) (added_told rows n _ _ r.delta c.new.ensures)
