-- How many rounds: by the bound, and since the rounds needed are one number.
use Rattle.std.proofs.Common.{arith}
use Rattle.meaning.specs.Lite.{lite}
use Rattle.theory.proofs.SheetLaws.{rounds-unique}
use Rattle.meaning.proofs.Declared.{concepts-count}
use Rattle.meaning.proofs.Demands.{rounds-suffice, most-rounds}
use Rattle.meaning.proofs.sheet.how_many.Goals as goal

pub returns : goal.returns
returns c = record {
  suffice = rounds-suffice;
  at_most = λ 𝓒 ok n needed.
      let w = rounds-suffice 𝓒 ok in
      let e = rounds-unique (lite 𝓒) n w.0 needed w.2 in
      omega (arith, e, w.1);
  most = most-rounds;
  concepts = concepts-count;
}
