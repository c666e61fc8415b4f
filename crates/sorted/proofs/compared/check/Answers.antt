use Rattle.sorted.proofs.Refused.{passes-alone, refused-alone}
use Rattle.sorted.proofs.compared.check.Goals as goal

pub returns : goal.returns
returns c =
    let t = c.check.ensures in
    record { ok = passes-alone _ _ _ t.ok; refused = refused-alone _ _ _ t.bad_count t.bad_table t.bad_number }
