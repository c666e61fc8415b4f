-- One salvage, mark after mark.
use Rattle.salvage.specs.Facts.{Clashing}
use Rattle.salvage.proofs.SalvageLaws.{salvages_once, marks_each}
use Rattle.salvage.proofs.SalvagedLaws as salvaged
use Rattle.salvage.proofs.theorems.salvage.Goals as goal

pub returns : goal.returns
returns c = record {
  some = λ 𝓒 l ok g. salvaged.there 𝓒 ok l g;
  once = λ 𝓒 l marks others s t. salvages_once (Clashing 𝓒) s t;
  each = λ 𝓒 l marks s. marks_each (Clashing 𝓒) s;
  keeps = salvaged.kept_where;
  drops = salvaged.dropped_where;
  later = salvaged.later;
  other = salvaged.others_kept;
  others_after = λ 𝓒 l m marks g s. salvaged.others_after 𝓒 m l marks g s;
}
