-- `told`: what walks tell of each ask, or nothing.
use Rattle.index.specs.Preparation.{preparation}
use Rattle.index.proofs.Replies.{settled-as, found-as}
use Rattle.index.proofs.Telling.{none_told, walks_told, all_seen}
use Rattle.index.proofs.prepared.Prepared.told.Goals as goal

pub returns : goal.returns
returns c =
    let w = settled-as _ _ _ _ c.self.invariant c.in-Ok.is in
    let f = found-as w c.in-Needed.is in
    let e = c.strides.ensures in
    let a = c.answers.ensures in
    let p = preparation c.self.inside.lent c.self.inside.area c.self.inside.spare in
    all_seen _ _ _ c.self.view_is
    (walks_told p _ _ c.strides.result c.in-Needed.paths e.loops e.transitions e.edges f.paths.each _ a.each a.rest)

pub returns-2 : goal.returns-2
returns-2 c = none_told c.args.self.now c.args.asks.numbers.now c.args.from 256
