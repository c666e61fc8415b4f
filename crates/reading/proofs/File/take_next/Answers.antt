-- What comes next of the input, and what the line's reading ends in.
use Rattle.reading.specs.Next.{taken, refused, too_long, ended}
use Rattle.reading.proofs.File.take_next.Goals as goal

pub returns-in-End-clause-ok : goal.returns-in-End-clause-ok
returns-in-End-clause-ok g c = ended (rw c.in-End.is at c.in_ok-next.ensures.ok).1

pub returns-in-TooLong-clause-ok : goal.returns-in-TooLong-clause-ok
returns-in-TooLong-clause-ok g c = too_long (rw c.in-TooLong.is at c.in_ok-next.ensures.ok).1

pub returns-in-Ok-clause-ok : goal.returns-in-Ok-clause-ok
returns-in-Ok-clause-ok g c =
    let given = rw c.in-Line.is at c.in_ok-next.ensures.ok in
    taken _ _ given.0 (rw c.as_slice.ensures at c.in-Ok.ensures.turn) c.in-Ok.ensures.room

pub returns-in-Err-clause-ok : goal.returns-in-Err-clause-ok
returns-in-Err-clause-ok g c =
    let given = rw c.in-Line.is at c.in_ok-next.ensures.ok in
    rw c.in-Err.ensures.err (refused _ _ given.0 (rw (c.as_slice.ensures, c.in-Err.ensures.err) at c.in-Err.ensures.turn))
