use Rattle.intake.proofs.NextLaws.{stops-first}
use Rattle.intake.proofs.comparison.Comparison.take.Goals as goal

pub returns-then-not-branch-clause-err : goal.returns-then-not-branch-clause-err
returns-then-not-branch-clause-err g c =
    let other = c.in_ok-take_next.ensures in
    stops-first (rw c.if-not-branch.true at other.kept) (rw c.if-not-branch.true at other.other)
