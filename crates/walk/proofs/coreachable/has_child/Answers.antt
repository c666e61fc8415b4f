-- `has_child`: the role is among those of the set.
use Rattle.walk.proofs.coreachable.has_child.Goals as goal

pub returns : goal.returns
returns c =
    let m = c.roles.ensures.member c.args.back.0 in
    let t = c.contains.ensures in
    (λ e. m.0 (t.0 e), λ p. t.1 (m.1 p))
