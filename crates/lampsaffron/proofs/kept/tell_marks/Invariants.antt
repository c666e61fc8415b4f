-- `tell_marks`: the marks below k are put, and the rest is as it was.
use Rattle.std.specs.Prelude.{◌≡◌, map, take, drop}
use Rattle.lampsaffron.specs.Salvage.{mark_byte}
use Rattle.lampsaffron.proofs.kept.tell_marks.Given as goal

abbrev pub invariant-loop-k : goal.invariant-loop-k
invariant-loop-k l = (take l.k l.row ≡ map mark_byte (take l.k l.marks)) × (drop l.k l.row ≡ drop l.k l.fn.row)
