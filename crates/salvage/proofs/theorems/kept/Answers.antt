-- What is kept makes no contradiction, and is as much as may be.
use Rattle.salvage.proofs.SalvagedLaws as salvaged
use Rattle.salvage.proofs.theorems.kept.Goals as goal

pub returns : goal.returns
returns c = record {
  formed = λ 𝓒 l marks s. salvaged.formed s;
  sane = salvaged.sane;
  back = λ 𝓒 l marks s. salvaged.put_back s;
  most = λ 𝓒 l marks s. salvaged.most s;
  whole = λ 𝓒 l marks s. salvaged.kept s;
  same = λ 𝓒 l marks s. salvaged.whole s;
  repeats = λ 𝓒 l marks s. salvaged.marked_alike s;
}
