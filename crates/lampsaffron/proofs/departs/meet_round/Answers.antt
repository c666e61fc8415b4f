-- One entry more.
use Rattle.std.specs.Prelude.{[], ◌∷◌, ◌++◌}
use Rattle.std.proofs.Common.{sym, ap, ◌∙◌}
use Rattle.std.proofs.lemmas.List.{append_assoc}
use Rattle.lampsaffron.proofs.DepartsLaws.{meets-both, meets-one}
use Rattle.lampsaffron.proofs.ListingLaws.{entries-one}
use Rattle.lampsaffron.proofs.departs.meet_round.Goals as goal

pub loop-mark-preserved : goal.loop-mark-preserved
loop-mark-preserved c =
    let v = c.loop-mark.invariant in
    record {
      marks =
          v.marks
          ∙ (ap (λ l. c.loop-mark.yielded ++ l) c.in-Some.ensures.steps
          ∙ sym (append_assoc c.loop-mark.yielded (c.in-Some.mark ∷ []) c.next.new.self));
      met = rw (entries-one _ _ _) (meets-both v.met (meets-one _ _ (c.has_entry.ensures.0 c.if-not-has_entry.false)));
    }
