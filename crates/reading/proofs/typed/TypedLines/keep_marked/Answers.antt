-- Those that leave are those that do not stay.
use Rattle.std.proofs.Common.{take, ap, length, arith}
use Rattle.std.proofs.lemmas.List.{length-take-le}
use Rattle.reading.proofs.RetainLaws.{kept-and-dropped}
use Rattle.reading.proofs.typed.TypedLines.keep_marked.Goals as goal

pub returns-clause-dropped : goal.returns-clause-dropped
returns-clause-dropped c =
    let t = c.keep_first-self-inside.ensures in
    let lines = c.self.inside.lines in
    let used = c.self.inside.used in
    let all = length-take-le used lines (omega arith) in
    let stay = length-take-le c.keep_first-self-inside.result c.keep_first-self-inside.new.items (omega arith) in
    rw (← c.self.view_is) (omega (arith, kept-and-dropped (take used lines) c.args.marks.now, all, stay, ap length t.front))
