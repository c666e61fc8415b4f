-- As many as were counted.
use Rattle.std.proofs.Common.{arith}
use Rattle.std.proofs.lemmas.List.{length-map}
use Rattle.sheet.specs.Listed.{mark_of, marks_in}
use Rattle.sheet.proofs.ListedLaws.{marks_many}
use Rattle.sheet.proofs.round_marks.RoundMarks.count.Goals as goal

pub returns : goal.returns
returns c =
    let rows = c.self.inside.marks.now.rows in
    rw (← c.self.view_is) (omega (arith, c.self.invariant, marks_many rows, length-map (marks_in rows) mark_of))
