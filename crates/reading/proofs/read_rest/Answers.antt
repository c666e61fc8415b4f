-- Each exit is what the lines left say of all of them, after whatever frames were held.
use Rattle.reading.proofs.GoingOn.{on_next, on_stops, on_ends, read_next, less_next, near_fault}
use Rattle.reading.proofs.read_rest.Goals as goal

pub lines-preserved : goal.lines-preserved
lines-preserved g c = on_next c.lines.invariant (rw c.in-Taken.is at c.in_ok-take_next.ensures.ok)

pub lines-smaller : goal.lines-smaller
lines-smaller g c = less_next (rw c.in-Taken.is at c.in_ok-take_next.ensures.ok)

pub returns-in-Refused-clause-found : goal.returns-in-Refused-clause-found
returns-in-Refused-clause-found g c = on_stops c.lines.invariant (rw c.in-Refused.is at c.in_ok-take_next.ensures.ok) c.fault.ensures

pub returns-in-Refused-clause-taken : goal.returns-in-Refused-clause-taken
returns-in-Refused-clause-taken g c read = read_next c.in_ok-take_next.ensures.ok (c.lines.invariant.read read)

pub returns-in-Refused-clause-line : goal.returns-in-Refused-clause-line
returns-in-Refused-clause-line g c read =
    near_fault c.fault.ensures (read_next c.in_ok-take_next.ensures.ok (c.lines.invariant.read read))

pub returns-in-Ended-clause-found : goal.returns-in-Ended-clause-found
returns-in-Ended-clause-found g c =
    on_ends c.lines.invariant (rw c.in-Ended.is at c.in_ok-take_next.ensures.ok) c.ended.ensures.told

pub returns-in-Ended-clause-taken : goal.returns-in-Ended-clause-taken
returns-in-Ended-clause-taken g c read = read_next c.in_ok-take_next.ensures.ok (c.lines.invariant.read read)
