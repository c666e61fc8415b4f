use Rattle.std.specs.Prelude.{refl}
use Rattle.sift.proofs.Marking.{are_sane, are_put_back, are_whole, are_alike, whatever_deeds}
use Rattle.sift.proofs.salvage.Goals as goal

pub returns-clause-sane : goal.returns-clause-sane
returns-clause-sane c = are_sane _ _ _ _ (c.in_ok-check.ensures.ok.0 refl) c.sift.ensures

pub returns-clause-back : goal.returns-clause-back
returns-clause-back c = are_put_back _ _ _ _ (c.in_ok-check.ensures.ok.0 refl) c.sift.ensures

pub returns-clause-whole : goal.returns-clause-whole
returns-clause-whole c = are_whole _ _ _ _ (c.in_ok-check.ensures.ok.0 refl) c.sift.ensures

pub returns-clause-repeats : goal.returns-clause-repeats
returns-clause-repeats c = are_alike _ _ _ _ (c.in_ok-check.ensures.ok.0 refl) c.sift.ensures

pub returns-clause-deeds : goal.returns-clause-deeds
returns-clause-deeds c = whatever_deeds _ _ _ _ (c.in_ok-check.ensures.ok.0 refl) c.sift.ensures
