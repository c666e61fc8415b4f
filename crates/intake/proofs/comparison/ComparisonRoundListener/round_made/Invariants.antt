-- The marks so far, of which the lines were taken.
use Rattle.std.proofs.Common.{◌≡◌}
use Rattle.intake.proofs.ToldLaws.{MarksSoFar}
use Rattle.intake.proofs.comparison.ComparisonRoundListener.round_made.Given as goal

abbrev pub invariant-loop-mark : goal.invariant-loop-mark
invariant-loop-mark g l = record {
  named : l.self.lines.ghost_name ≡ l.fn.self.lines.ghost_name;
  so_far : MarksSoFar l.round l.marks l.mark-iterator l.fn.self.lines.now l.self.lines.now l.fn.self.right l.self.right;
}
