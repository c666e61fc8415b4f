-- `reply_told`: what was found gives the answer.
use Rattle.index.proofs.Replies.{fails, refused, undeclared, broken, beyond, yes, no, settled-as, refused-as, found-as, seen}
use Rattle.index.proofs.Telling.{told_led, told_seen}
use Rattle.index.proofs.prepared.Prepared.reply_told.Goals as goal

pub returns-in-Err : goal.returns-in-Err
returns-in-Err c = rw c.answer.ensures
    (seen c.args.ask _ c.self.view_is (refused c.self.inside.lent _ _ _ (refused-as _ _ _ _ c.self.invariant c.in-Err.is) c.args.ask))

pub returns-then-not-declared : goal.returns-then-not-declared
returns-then-not-declared c =
    let w = settled-as _ _ _ _ c.self.invariant c.in-Ok.is in
    seen c.args.ask _ c.self.view_is
    (undeclared c.self.inside.lent _ _ w.passes w.areas c.args.ask (fails c.declared.ensures c.if-not-declared.true))

pub is_yes-requires : goal.is_yes-requires
is_yes-requires c =
    let w = settled-as _ _ _ _ c.self.invariant c.in-Ok.is in
    let d = c.declared.ensures.0 c.if-not-declared.false in
    let f = found-as w c.in-Needed.is in
    told_led c.args.told (told_seen c.args.ask c.args.told c.self.view_is c.requires) d (f.paths.each c.args.ask d)

pub returns-in-Contradiction : goal.returns-in-Contradiction
returns-in-Contradiction c =
    let w = settled-as _ _ _ _ c.self.invariant c.in-Ok.is in
    seen c.args.ask _ c.self.view_is
    (broken c.self.inside.lent _ _ w.passes w.areas c.args.ask (c.declared.ensures.0 c.if-not-declared.false)
    (found-as w c.in-Contradiction.is))

pub returns-in-Spent : goal.returns-in-Spent
returns-in-Spent c =
    let w = settled-as _ _ _ _ c.self.invariant c.in-Ok.is in
    let f = found-as w c.in-Spent.is in
    seen c.args.ask _ c.self.view_is
    (beyond c.self.inside.lent _ _ w.passes w.areas c.args.ask (c.declared.ensures.0 c.if-not-declared.false) f.0 f.1)

pub returns-then-is_yes : goal.returns-then-is_yes
returns-then-is_yes c =
    let w = settled-as _ _ _ _ c.self.invariant c.in-Ok.is in
    let f = found-as w c.in-Needed.is in
    let d = c.declared.ensures.0 c.if-not-declared.false in
    let x = (f.paths.each c.args.ask d).0 (c.is_yes.ensures.0 c.if-is_yes.true) in
    seen c.args.ask _ c.self.view_is (yes c.self.inside.lent _ _ w.passes w.areas f.sane _ f.needed f.allowed c.args.ask d x)

pub returns-else-is_yes : goal.returns-else-is_yes
returns-else-is_yes c =
    let w = settled-as _ _ _ _ c.self.invariant c.in-Ok.is in
    let f = found-as w c.in-Needed.is in
    let d = c.declared.ensures.0 c.if-not-declared.false in
    seen c.args.ask _ c.self.view_is
    (no c.self.inside.lent _ _ w.passes w.areas f.sane _ f.needed f.allowed c.args.ask d
    (λ y. fails c.is_yes.ensures c.if-is_yes.false ((f.paths.each c.args.ask d).1 y)))
