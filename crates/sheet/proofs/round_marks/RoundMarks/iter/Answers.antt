-- Before any has come, all are to come.
use Rattle.std.proofs.Common.{ap, ◌∙◌}
use Rattle.std.specs.Prelude.{map}
use Rattle.sheet.specs.Listed.{mark_of}
use Rattle.sheet.proofs.ListedLaws.{left_first}
use Rattle.sheet.proofs.round_marks.RoundMarks.iter.Goals as goal

pub returns : goal.returns
returns c = ap (map mark_of) (left_first c.self.inside.marks.now _ c.sources.ensures) ∙ c.self.view_is
