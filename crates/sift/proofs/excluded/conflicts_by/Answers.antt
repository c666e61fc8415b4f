-- `conflicts_by` meets its contract: with no exclusion no roles are in conflict, and else a turn makes one row.
use Rattle.std.proofs.Common.{arith}
use Rattle.sets.specs.Rows.{role_marks}
use Rattle.sift.proofs.ConflictLaws.{rows_start, rows_more, conflicts_none, conflicts_end}
use Rattle.sift.proofs.excluded.conflicts_by.Goals as goal

pub returns-then-is_empty : goal.returns-then-is_empty
returns-then-is_empty c =
    conflicts_none c.args.exclusions.numbers.now (role_marks c.args.order.now.above) (c.is_empty.ensures.0 c.if-is_empty.true)

pub loop-r-init : goal.loop-r-init
loop-r-init c = rows_start c.excluded_from-excluded.result (role_marks c.args.order.now.above)

pub loop-r-preserved : goal.loop-r-preserved
loop-r-preserved c =
    rows_more c.excluded_from-excluded.result (role_marks c.args.order.now.above) c.loop-r.conflicts c.loop-r.r c.conflict_row.result
    c.loop-r.invariant c.loop-r-test.true c.conflict_row.ensures

pub returns : goal.returns
returns c =
    conflicts_end c.args.exclusions.numbers.now (role_marks c.args.order.now.above) c.excluded_from-excluded.result
    c.loop-r.conflicts c.loop-r.r c.excluded_from-excluded.ensures c.loop-r.invariant
    (omega (arith, c.loop-r-test.false, c.loop-r.auto.r-end))
