-- The line is taken where its frame passes the tests and is kept.
use Rattle.std.proofs.Common.{Ok}
use Rattle.reading.proofs.Fronts.{one_taken}
use Rattle.reading.proofs.Judging.{passed_first}
use Rattle.reading.proofs.Turns.{small_said, turn_kept}
use Rattle.reading.proofs.File.take_kind.Goals as goal

pub keep-requires-clause-small : goal.keep-requires-clause-small
keep-requires-clause-small c = small_said _ _ c.in-Some.ensures.frame

pub returns-in-Ok : goal.returns-in-Ok
returns-in-Ok c =
    let b = c.in-Some.ensures in
    let kept = c.in-Ok.ensures in
    let passes = c.if-not-passes.ensures in
    let turn = turn_kept {r = Ok tt} b.frame (passed_first _ _ passes.passes) kept.judged kept.ok kept.err in
    one_taken b turn passes.passes passes.adds_none c.requires kept.ok
