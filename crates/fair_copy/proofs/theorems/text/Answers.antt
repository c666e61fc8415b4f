use Rattle.shell.proofs.WritesLaws.{start-writes}
use Rattle.fair_copy.specs.Copy.{Copies}
use Rattle.fair_copy.proofs.Order.{copy-once}
use Rattle.fair_copy.proofs.Inputs.{copies-once, input-once, input-fits}
use Rattle.fair_copy.proofs.theorems.text.Goals as goal

pub returns : goal.returns
returns c = record {
  one = copy-once;
  said = λ fs t. copies-once fs;
  once = input-once;
  fits = λ input text wrote. input-fits wrote;
  start = start-writes Copies;
}
