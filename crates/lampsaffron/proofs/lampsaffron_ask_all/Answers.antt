-- `lampsaffron_ask_all`: the pairs are a row of asks, which is asked in turn, as it is told.
use Rattle.std.specs.Prelude.{length}
use Rattle.std.proofs.Common.{refl}
use Rattle.lampsaffron.specs.Boundary.{RowFits}
use Rattle.lampsaffron.proofs.Told.{part_count, part_is, told, passed-turns}
use Rattle.lampsaffron.proofs.Deeds.{in-turn-deeds}
use Rattle.lampsaffron.proofs.Seven.{row-never}
use Rattle.lampsaffron.proofs.lampsaffron_ask_all.Goals as goal

pub returns-clause-in_turn : goal.returns-clause-in_turn
returns-clause-in_turn c =
    let fits = c.row_fits.ensures.0 c.if-not-row_fits.false in
    let put = c.put_pairs.ensures in
    let turns = c.ask_all.ensures.in_turn in
    let l = c.lent-lent.ensures in
    told _ c.args.pairs.now _ _ _ _ _ c.ask_all.new.answers _ c.tell.new.numbers c.tell.new.counts refl
    (rw (c.tell.auto.numbers, c.tell.auto.counts) fits) (part_count _ _ put fits.whole.few) (part_is _ _ put fits.whole.few) c.tell.ensures
    (passed-turns c.lent-lent.result l.counts l.tables l.allowance (rw c.new-asks.ensures at turns))

pub returns-clause-deeds : goal.returns-clause-deeds
returns-clause-deeds c = λ t s. in-turn-deeds t s (returns-clause-in_turn c)

pub returns-clause-seven_never : goal.returns-clause-seven_never
returns-clause-seven_never c =
    let fits = c.row_fits.ensures.0 c.if-not-row_fits.false in
    let each : RowFits c.args.pairs.now (length c.tell.new.numbers) (length c.tell.new.counts) =
    rw (c.tell.auto.numbers, c.tell.auto.counts) fits in
    row-never _ _ _ _ _ _ _ _ _ each.number_each (returns-clause-in_turn c)
