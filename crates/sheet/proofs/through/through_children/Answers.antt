-- The roles of the delta, with their loops.
use Rattle.sheet.proofs.Laws.{children_all}
use Rattle.sheet.proofs.through.through_children.Goals as goal

pub returns : goal.returns
returns c =
    children_all c.args.delta.now c.args.rows.now _ _ _ c.concepts.ensures c.roles-roles.ensures c.gather.ensures
    c.through_roles.ensures
