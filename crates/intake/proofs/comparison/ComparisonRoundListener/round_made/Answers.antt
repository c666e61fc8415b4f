-- One mark more, or the one at which it stops.
use Rattle.std.proofs.Common.{◌∙◌}
use Rattle.intake.proofs.ToldLaws.{one_so_far, stops_there, passed_on}
use Rattle.intake.proofs.comparison.ComparisonRoundListener.round_made.Goals as goal

pub loop-mark-preserved : goal.loop-mark-preserved
loop-mark-preserved g c = record {
  named = c.in_ok-take.ensures.same_reference ∙ c.loop-mark.invariant.named;
  so_far = one_so_far c.loop-mark.invariant.so_far c.in-Some.ensures.steps _ _ c.in_ok-take.ensures.ok;
}

pub returns-in_err-take-clause-err : goal.returns-in_err-take-clause-err
returns-in_err-take-clause-err g c =
    passed_on c.from_residual.result _ _ c.from_residual.ensures.1
    (c.in_err-take.ensures.same_reference ∙ c.loop-mark.invariant.named, stops_there c.loop-mark.invariant.so_far c.in-Some.ensures.steps _ _ g.S.Source.fails _ c.in_err-take.ensures.err)
