-- Each exit is what the lines left say of the whole.
use Rattle.std.proofs.Common.{[], arith}
use Rattle.reading.proofs.GoingOn.{stops_next, ends_next, read_next, less_next, near_fault}
use Rattle.reading.proofs.Fronts.{no_more_room}
use Rattle.reading.proofs.UpToList.{half_start, half_kept, half_next, half_behind, half_read, list_found, nothing_found, fault_found}
use Rattle.reading.proofs.read_lines.Goals as goal

pub lines-init : goal.lines-init
lines-init g c = half_start c.requires

pub returns-then-begins_list-clause-found : goal.returns-then-begins_list-clause-found
returns-then-begins_list-clause-found g c =
    let w = half_kept c.lines.invariant c.in_ok-fill.ensures.left in
    list_found _ w c.held.ensures (c.begins_list.ensures.0 c.if-begins_list.true)

pub returns-in-Refused-clause-found : goal.returns-in-Refused-clause-found
returns-in-Refused-clause-found g c =
    let w = half_kept c.lines.invariant c.in_ok-fill.ensures.left in
    fault_found _ _ _ _ (stops_next [] w.begun (rw c.in-Refused.is at c.in_ok-take_next.ensures.ok) c.fault.ensures)

pub returns-in-Refused-clause-taken : goal.returns-in-Refused-clause-taken
returns-in-Refused-clause-taken g c = read_next c.in_ok-take_next.ensures.ok (half_read c.lines.invariant)

pub returns-in-Refused-clause-line : goal.returns-in-Refused-clause-line
returns-in-Refused-clause-line g c =
    near_fault c.fault.ensures (read_next c.in_ok-take_next.ensures.ok (half_read c.lines.invariant))

pub returns-in-Ok-clause-found : goal.returns-in-Ok-clause-found
returns-in-Ok-clause-found g c =
    let w = half_kept c.lines.invariant c.in_ok-fill.ensures.left in
    nothing_found _ w (rw c.in-Ended.is at c.in_ok-take_next.ensures.ok) (c.in-Ok.ensures.told)

pub returns-in-Err-clause-found : goal.returns-in-Err-clause-found
returns-in-Err-clause-found g c =
    let w = half_kept c.lines.invariant c.in_ok-fill.ensures.left in
    fault_found _ _ _ _ (ends_next [] w.begun (rw c.in-Ended.is at c.in_ok-take_next.ensures.ok) c.in-Err.ensures.told)

pub lines-smaller : goal.lines-smaller
lines-smaller g c =
    let less = less_next (rw c.in-Taken.is at c.in_ok-take_next.ensures.ok) in
    omega (arith, less, no_more_room c.take_lines-taken.ensures)

pub lines-preserved : goal.lines-preserved
lines-preserved g c =
    let w = half_kept c.lines.invariant c.in_ok-fill.ensures.left in
    let next = half_next _ w c.in_ok-fill.ensures.ok c.held.ensures (λ b. grind arith) (rw c.in-Taken.is at c.in_ok-take_next.ensures.ok) in
    half_behind _ next c.held-in-lines.ensures c.take_lines-taken.ensures c.consume.ensures.held c.consume.ensures.behind
