-- `own_rows`: each row below i has its own role alone.
use Rattle.laws.specs.Fill.{Filling}
use Rattle.sets.specs.Bits.{role_width}
use Rattle.sets.specs.Rows.{no_roles}
use Rattle.orders.proofs.SideLaws.{OwnRow}
use Rattle.orders.proofs.roles.own_rows.Given as goal

abbrev pub invariant-loop-i : goal.invariant-loop-i
invariant-loop-i l = Filling OwnRow no_roles role_width l.initial.out l.out l.i
