-- The lines read so far, after whatever frames were held, and how many more there is room for.
use Rattle.streams.specs.Input.{left_of}
use Rattle.reading.specs.Room.{room_left}
use Rattle.reading.proofs.GoingOn.{BegunOn}
use Rattle.reading.proofs.read_rest.Given as goal

abbrev pub invariant-lines : goal.invariant-lines
invariant-lines g l = BegunOn l.fn.file l.file (left_of l.fn.input) (left_of l.input)

abbrev pub decreases-lines : goal.decreases-lines
decreases-lines g l = room_left l.file
