-- The lines read so far, none of them an entry of a list, and how many more there is room for.
use Rattle.streams.specs.Input.{left_of}
use Rattle.reading.specs.Room.{room_left}
use Rattle.reading.proofs.UpToList.{HalfBegun}
use Rattle.reading.proofs.read_lines.Given as goal

abbrev pub invariant-lines : goal.invariant-lines
invariant-lines g l = HalfBegun (left_of l.fn.input) (left_of l.input) l.file

abbrev pub decreases-lines : goal.decreases-lines
decreases-lines g l = room_left l.file
