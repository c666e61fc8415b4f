-- One more round, by what the round before added.
use Rattle.std.proofs.Common.{add-one}
use Rattle.sheet.proofs.Theory.{turn_sheet, turn_next}
use Rattle.sheet.proofs.closing.Closing.advance.Goals as goal

pub returns : goal.returns
returns c = λ n r.
    let t = c.round.ensures.round in
    rw (add-one n)
    (record {
      sheet = turn_sheet c.args.rows.now n _ _ r.sheet r.delta _ _ t;
      delta = turn_next c.args.rows.now n _ _ r.sheet r.delta _ _ t;
    })
