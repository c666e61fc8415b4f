-- `put_rows`: the left sides below i are put in.
use Rattle.sift.proofs.ApartLaws.{RowsPut}
use Rattle.sift.proofs.excluded.put_rows.Given as goal

abbrev pub invariant-loop-i : goal.invariant-loop-i
invariant-loop-i l = RowsPut l.below l.excluded l.i l.apart
