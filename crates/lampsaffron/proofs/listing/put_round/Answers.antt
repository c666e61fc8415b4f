-- One entry more.
use Rattle.std.proofs.Common.{sym, ap, ◌∙◌}
use Rattle.std.specs.Prelude.{[], ◌∷◌, ◌++◌}
use Rattle.std.proofs.lemmas.List.{append_assoc}
use Rattle.lampsaffron.proofs.Front.{puts-both}
use Rattle.lampsaffron.proofs.ListingLaws.{entries-more}
use Rattle.lampsaffron.proofs.listing.put_round.Goals as goal

pub loop-first-preserved : goal.loop-first-preserved
loop-first-preserved c =
    let v = c.loop-first.invariant in
    record {
      marks = v.marks
          ∙ (ap (λ l. c.loop-first.yielded ++ l) c.in-Some.ensures.steps
          ∙ sym (append_assoc c.loop-first.yielded (_ ∷ []) c.next.new.self));
      put = rw (entries-more _ _ _) (puts-both v.put (rw c.entry_of.ensures at c.in_ok-put.ensures.put));
    }
