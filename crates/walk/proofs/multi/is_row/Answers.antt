-- `is_row`: every set was read.
use Rattle.walk.proofs.SetLaws.{small_row}
use Rattle.walk.proofs.multi.is_row.Goals as goal

pub returns : goal.returns
returns c =
    record { long = c.told-row; small = small_row c.args.row.now _ c.told-row c.loop-s.invariant c.loop-s-test.false }
