use Rattle.std.proofs.Common.{◌∙◌, arith}
use Rattle.reading.specs.Records.{is_typed}
use Rattle.reading.proofs.RetainLaws.{found-more, marks-all}
use Rattle.reading.proofs.retain.marks_of.Goals as goal

pub loop-i-preserved : goal.loop-i-preserved
loop-i-preserved c =
    rw (c.counted-found.ensures, c.is_typed.ensures)
    (found-more (is_typed c.args.asked) c.loop-i.invariant _ (omega arith) (omega arith) (omega arith))

pub returns-clause-front : goal.returns-clause-front
returns-clause-front c =
    c.loop-i.invariant.front
    ∙ marks-all (is_typed c.args.asked) c.args.typed.now c.args.marks.now c.loop-i.i (omega (arith, c.min-i-end.ensures))
