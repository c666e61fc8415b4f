-- One row more.
use Rattle.std.proofs.Common.{arith}
use Rattle.sheet.proofs.Laws.{counted_start, counted_more, counted_end}
use Rattle.sheet.proofs.marks.Marks.count_from.Goals as goal

pub loop-t-init : goal.loop-t-init
loop-t-init c = rw (c.into_iter-t-iterator.ensures.into_iter_gives, c.iter-t-items.ensures) (counted_start _ _ _)

pub loop-t-preserved : goal.loop-t-preserved
loop-t-preserved c =
    counted_more c.args.self.now _ c.requires _ _ _ _ _ c.loop-t.invariant c.in-Some.ensures.steps c.len.ensures.count
    c.len.ensures.few

pub returns-clause-count : goal.returns-clause-count
returns-clause-count c = counted_end c.args.self.now _ c.requires _ _ c.loop-t.invariant c.in-None.ensures.steps.0

pub returns-clause-small : goal.returns-clause-small
returns-clause-small c = let v = c.loop-t.invariant in omega (arith, v.small, v.within)
