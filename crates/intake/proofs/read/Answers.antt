-- Where reading stops at a fault, or with nothing behind, that is the input's.
use Rattle.streams.specs.Input.{left_of}
use Rattle.intake.proofs.Taking.{fault-told, nothing-behind}
use Rattle.intake.proofs.read.Goals as goal

pub returns-in-Err-clause-found : goal.returns-in-Err-clause-found
returns-in-Err-clause-found g c =
    fault-told (g.S.Source.remaining c.args.source) (left_of c.read.new.input) c.in-Err.fault c.read.new.file
    (rw (c.in-Err.is, c.new-lines.ensures) at c.in_ok-fault.ensures.found)

pub returns-in-Ok-Nothing-clause-found : goal.returns-in-Ok-Nothing-clause-found
returns-in-Ok-Nothing-clause-found g c =
    nothing-behind (g.S.Source.remaining c.args.source) (left_of c.read.new.input) c.read.new.file
    (rw (c.in-Ok-Nothing.is, c.in-Ok-Nothing.field-0-is, c.new-lines.ensures) at c.in_ok-fault.ensures.found)
