-- `ask_all`: where none is declared both areas stay, and else they are as prepared.
use Rattle.std.proofs.Common.{arith}
use Rattle.index.proofs.Rows.{refused_in_turn, replied_in_turn}
use Rattle.index.proofs.Replies.{fails}
use Rattle.index.proofs.Deeds.{turn-whatever}
use Rattle.index.proofs.lent.Lent.ask_all.Goals as goal

pub returns-then-not-any_declared-clause-in_turn : goal.returns-then-not-any_declared-clause-in_turn
returns-then-not-any_declared-clause-in_turn c =
    refused_in_turn c.args.self.now _ _ _ _ _ _ c.answer_alike.auto.answers
    (omega (arith, c.min-n.ensures, c.len.ensures)) _ c.undeclared-refused.ensures c.answer_alike.ensures.alike
    (fails c.any_declared.ensures c.if-not-any_declared.true)

pub returns-clause-in_turn : goal.returns-clause-in_turn
returns-clause-in_turn c =
    let p = c.prepare-prepared.ensures in
    replied_in_turn c.args.self.now _ _ _ _ _ _ c.reply_all.auto.answers (omega (arith, c.min-n.ensures, c.len.ensures)) _ p.own _ _
    (record {
      sheet = p.sheet;
      cleared = p.cleared;
      untouched = p.untouched;
      spared = p.spared;
    }) c.prepare-prepared.auto.area c.prepare-prepared.auto.spare c.reply_all.ensures.answered
    (c.any_declared.ensures.0 c.if-not-any_declared.false)

pub returns-then-not-any_declared-clause-deeds : goal.returns-then-not-any_declared-clause-deeds
returns-then-not-any_declared-clause-deeds c = turn-whatever _ _ (returns-then-not-any_declared-clause-in_turn c)

pub returns-clause-deeds : goal.returns-clause-deeds
returns-clause-deeds c = turn-whatever _ _ (returns-clause-in_turn c)
