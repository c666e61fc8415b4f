-- `reflexive`: each (h, h) below i is marked, and the array is still square.
use Rattle.laws.specs.Gains.{OneOf}
use Rattle.laws.specs.Marks.{mark}
use Rattle.sets.specs.Rows.{Adds}
use Rattle.orders.specs.Marks.{Own, Square}
use Rattle.sets.specs.Bits.{role_width}
use Rattle.orders.proofs.roles.reflexive.Given as goal

abbrev pub invariant-loop-i : goal.invariant-loop-i
invariant-loop-i l = record { square : Square role_width l.m; marked : Adds role_width role_width (mark l.fn.m) (OneOf Own l.i) (mark l.m) }
