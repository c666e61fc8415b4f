use Rattle.reading.proofs.ListEnds.{list-last, list-only, list-begins, entry-taken, entries-held}
use Rattle.reading.proofs.ListLaws.{list-counted, sound-extends}
use Rattle.reading.proofs.theorems.list.Goals as goal

pub returns : goal.returns
returns c = record {
  extends = λ before fs ls r. sound-extends r;
  last = list-last;
  only = list-only;
  counted = list-counted;
  begins = list-begins;
  taken = entry-taken;
  held = entries-held;
}
