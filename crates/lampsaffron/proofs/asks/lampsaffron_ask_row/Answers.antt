-- `lampsaffron_ask_row`: the tests in their order, and the asks in turn, as they are told.
use Rattle.std.specs.Prelude.{length}
use Rattle.std.proofs.Common.{refl}
use Rattle.laws.specs.First.{fails, holds}
use Rattle.index.proofs.Replies as replies
use Rattle.lampsaffron.specs.Asks.{AsksFit}
use Rattle.lampsaffron.proofs.Told.{told-asks, passed-turns}
use Rattle.lampsaffron.proofs.Deeds.{in-turn-deeds}
use Rattle.lampsaffron.proofs.Seven.{row-never}
use Rattle.lampsaffron.proofs.asks.lampsaffron_ask_row.Goals as goal

pub returns-then-not-asks_fit-clause-number : goal.returns-then-not-asks_fit-clause-number
returns-then-not-asks_fit-clause-number c = fails (replies.fails (rw c.new-row.ensures at c.asks_fit.ensures) c.if-not-asks_fit.true)

pub returns-then-not-kinds_fit-clause-number : goal.returns-then-not-kinds_fit-clause-number
returns-then-not-kinds_fit-clause-number c =
    holds (rw c.new-row.ensures at (c.asks_fit.ensures.0 c.if-not-asks_fit.false))
    (fails (replies.fails c.kinds_fit.ensures c.if-not-kinds_fit.true))

pub returns-clause-number : goal.returns-clause-number
returns-clause-number c =
    holds (rw c.new-row.ensures at (c.asks_fit.ensures.0 c.if-not-asks_fit.false))
    (holds (c.kinds_fit.ensures.0 c.if-not-kinds_fit.false) refl)

pub returns-clause-in_turn : goal.returns-clause-in_turn
returns-clause-in_turn c = λ z.
    let fits = rw c.new-row.ensures at (c.asks_fit.ensures.0 c.if-not-asks_fit.false) in
    let turns = c.ask_all.ensures.in_turn in
    let l = c.lent-lent.ensures in
    told-asks _ c.args.asks.now _ _ _ _ c.ask_all.new.answers _ c.tell.new.numbers c.tell.new.counts refl
    (rw (c.tell.auto.numbers, c.tell.auto.counts) fits) c.tell.ensures
    (passed-turns c.lent-lent.result l.counts l.tables l.allowance (rw c.new-row.ensures at turns))

pub returns-clause-deeds : goal.returns-clause-deeds
returns-clause-deeds c = λ t s z. in-turn-deeds t s (returns-clause-in_turn c z)

pub returns-clause-seven_never : goal.returns-clause-seven_never
returns-clause-seven_never c = λ k z.
    let fits = rw c.new-row.ensures at (c.asks_fit.ensures.0 c.if-not-asks_fit.false) in
    let each : AsksFit c.args.asks.now (length c.tell.new.numbers) (length c.tell.new.counts) =
    rw (c.tell.auto.numbers, c.tell.auto.counts) fits in
    row-never _ _ _ _ _ _ _ _ _ each.number_each (returns-clause-in_turn c z) k
