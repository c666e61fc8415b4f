use Rattle.laws.specs.Truth.{test-false}
use Rattle.sift.specs.Steps.{dropped, kept}
use Rattle.sift.proofs.steps.HeldRows.take_role.Goals as goal

pub returns-then-role_clashes : goal.returns-then-role_clashes
returns-then-role_clashes c = dropped (c.role_clashes.ensures.0 c.if-role_clashes.true)

pub returns : goal.returns
returns c =
    kept (test-false c.role_clashes.ensures c.if-role_clashes.false)
    (record {
      concepts = rw c.join.ensures.concepts c.put_ends.ensures.concepts;
      roles = rw c.put_ends.ensures.roles at c.join.ensures.roles;
    })
