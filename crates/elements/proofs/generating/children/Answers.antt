-- `children` meets its contract: the row of the inverse's concept, from the base on.
use Rattle.std.proofs.Common.{rules}
use Rattle.kinds.specs.Kinds.{inverse, number_of}
use Rattle.elements.proofs.ReachLaws.{child_roles}
use Rattle.elements.proofs.generating.children.Goals as goal

pub returns : goal.returns
unfolding number_of inverse
returns c =
    child_roles c.args.order.now.above c.args.role.0 c.roles.result.0 (search rules)
    (rw (c.above.ensures, c.exists.ensures, c.inverse-back.ensures) at c.roles.ensures)
