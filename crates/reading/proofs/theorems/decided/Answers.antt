use Rattle.reading.proofs.KeptFrames.{taken-left}
use Rattle.reading.proofs.RetainedLaws.{retained-held}
use Rattle.reading.proofs.SalvageLaws.{decides-some, decides-once, decides-without_deeds, decides-taken, decides-says, kept-salvaged, decides-sane}
use Rattle.reading.proofs.theorems.decided.Goals as goal

pub returns : goal.returns
returns c = record {
  some = decides-some;
  once = decides-once;
  deeds = decides-without_deeds;
  taken = decides-taken;
  says = decides-says;
  salvaged = kept-salvaged;
  sane = decides-sane;
  kept_taken = taken-left;
  kept_held = λ fs t marks d. retained-held fs marks t d;
}
