-- From no tests.
use Rattle.std.specs.Prelude.{◌*◌}
use Rattle.kinds.specs.Kinds.{most_states}
use Rattle.rules.proofs.MadeLaws.{tests_are}
use Rattle.rules.proofs.rows.Rows.fill.Goals as goal

pub returns-clause-tests : goal.returns-clause-tests
returns-clause-tests c = tests_are _ _ _ (most_states * most_states) (rw c.clear.ensures at c.put_tests.ensures)
